use Rattle.btr_restore.specs.Ends.{world_of}
use Rattle.btr_restore.specs.Running.{outside, world}
use Rattle.btr_restore.proofs.Rans.{ran_halt, ran_passed, ran_then, ran_wrote}
use Rattle.btr_send.specs.Sending.{opened, sent_below}
use Rattle.btr_send.proofs.sending.send_source.Goals as goal

pub returns-clause-ran : goal.returns-clause-ran
returns-clause-ran g c s e =
    ran_then (opened c.args.file.now.dest.now c.args.file.now.name.now c.args.source.now) (λ u. sent_below s c.args.source.now c.args.sums)
    (world_of g.R.Rack.seen g.T.TreeSink.sink g.T.TreeSink.account g.O.Out.text g.O.Out.account c.args.ends.now) (world
    (g.R.Rack.seen c.args.ends.now.rack.now) c.args.ends.now.vol.now (outside
    (g.T.TreeSink.sink c.begin.new.tree) (g.T.TreeSink.account c.begin.new.tree) (g.O.Out.text c.args.ends.now.out.now)
    (g.O.Out.account c.args.ends.now.out.now))) _ tt _
    (ran_wrote _ _ _ _ _ _ c.requires.ready (c.in_ok-begin.ensures.wrote (g.O.Out.text c.args.ends.now.out.now) (g.O.Out.account c.args.ends.now.out.now)))
    (c.send_below.ensures.ran s e)

pub returns-in_err-begin-clause-ran : goal.returns-in_err-begin-clause-ran
returns-in_err-begin-clause-ran g c s e =
    ran_passed _ c.from_residual.ensures.1
    (ran_halt (opened c.args.file.now.dest.now c.args.file.now.name.now c.args.source.now) (λ u. sent_below s c.args.source.now c.args.sums)
    (world_of g.R.Rack.seen g.T.TreeSink.sink g.T.TreeSink.account g.O.Out.text g.O.Out.account c.args.ends.now) (world
    (g.R.Rack.seen c.args.ends.now.rack.now) c.args.ends.now.vol.now (outside
    (g.T.TreeSink.sink c.begin.new.tree) (g.T.TreeSink.account c.begin.new.tree) (g.O.Out.text c.args.ends.now.out.now)
    (g.O.Out.account c.args.ends.now.out.now))) (world
    (g.R.Rack.seen c.args.ends.now.rack.now) c.args.ends.now.vol.now (outside (g.T.TreeSink.sink c.begin.new.tree) (g.T.TreeSink.account c.begin.new.tree)
    (g.O.Out.text c.args.ends.now.out.now) (g.O.Out.account c.args.ends.now.out.now))) c.in_err-begin.field-0.0
    (ran_wrote _ _ _ _ _ _ c.requires.ready (c.in_err-begin.ensures.wrote (g.O.Out.text c.args.ends.now.out.now) (g.O.Out.account c.args.ends.now.out.now))))
