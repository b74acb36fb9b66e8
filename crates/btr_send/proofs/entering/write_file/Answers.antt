use Rattle.btr_prog.specs.Prog.{bind}
use Rattle.btr_restore.specs.Running.{outside, outside_of, world}
use Rattle.btr_listing.specs.Step.{Bytes}
use Rattle.btr_restore.proofs.Rans.{came_passed, ran_halt, ran_passed, ran_then, ran_wrote}
use Rattle.btr_send.specs.Command.{mkfile}
use Rattle.btr_send.specs.Sending.{closed, pieces}
use Rattle.btr_send.proofs.Putting.{step_halt, step_ran}
use Rattle.btr_send.proofs.entering.write_file.Goals as goal

pub returns-in_err-put_mkfile-clause-ran : goal.returns-in_err-put_mkfile-clause-ran
returns-in_err-put_mkfile-clause-ran g c s e =
    ran_passed _ (came_passed _ _ _ c.from_residual.ensures.1)
    (ran_wrote _ _ _ _ _ _ c.requires.ready (step_halt _ _ _ _ _ (c.in_err-put_mkfile.ensures.wrote (g.O.Out.text c.args.ends.now.out.now)
    (g.O.Out.account c.args.ends.now.out.now))))

pub returns-in_err-sent-clause-ran : goal.returns-in_err-sent-clause-ran
returns-in_err-sent-clause-ran g c s e =
    ran_passed _ (came_passed _ _ _ c.from_residual-in_err-sent.ensures.1)
    (step_ran (Bytes (mkfile c.args.entry.now.path.now)) (bind (pieces s c.args.sums c.args.entry.now.tree c.args.entry.now.row.location.objectid
    c.args.entry.now.path.now c.args.inode.now) (closed c.args.entry.now.path.now c.args.inode.now.size c.args.counts.now))
    (outside_of g.T.TreeSink.sink g.T.TreeSink.account g.O.Out.text g.O.Out.account c.args.ends.now.tree.now c.args.ends.now.out.now) (outside
    (g.T.TreeSink.sink c.put_mkfile.new.tree) (g.T.TreeSink.account c.put_mkfile.new.tree) (g.O.Out.text c.args.ends.now.out.now)
    (g.O.Out.account c.args.ends.now.out.now)) _ _ _ _ c.requires.ready
    (c.in_ok-put_mkfile.ensures.wrote (g.O.Out.text c.args.ends.now.out.now) (g.O.Out.account c.args.ends.now.out.now))
    (ran_halt (pieces s c.args.sums c.args.entry.now.tree c.args.entry.now.row.location.objectid c.args.entry.now.path.now c.args.inode.now)
    (closed c.args.entry.now.path.now c.args.inode.now.size c.args.counts.now) (world (g.R.Rack.seen c.args.ends.now.rack.now) c.args.ends.now.vol.now (outside
    (g.T.TreeSink.sink c.put_mkfile.new.tree) (g.T.TreeSink.account c.put_mkfile.new.tree) (g.O.Out.text c.args.ends.now.out.now)
    (g.O.Out.account c.args.ends.now.out.now))) (world (g.R.Rack.seen c.write_bytes.new.rack) c.write_bytes.new.vol (outside
    (g.T.TreeSink.sink c.write_bytes.new.tree) (g.T.TreeSink.account c.write_bytes.new.tree) (g.O.Out.text c.args.ends.now.out.now)
    (g.O.Out.account c.args.ends.now.out.now))) (world (g.R.Rack.seen c.write_bytes.new.rack) c.write_bytes.new.vol (outside
    (g.T.TreeSink.sink c.write_bytes.new.tree) (g.T.TreeSink.account c.write_bytes.new.tree) (g.O.Out.text c.args.ends.now.out.now)
    (g.O.Out.account c.args.ends.now.out.now))) c.in_err-sent.field-0.0 (c.in_err-sent.ensures.ran s _ _ e)))

pub returns-clause-ran : goal.returns-clause-ran
returns-clause-ran g c s e =
    let h = c.in_ok-sent.ensures.ran s (g.O.Out.text c.args.ends.now.out.now) (g.O.Out.account c.args.ends.now.out.now) e in
    step_ran (Bytes (mkfile c.args.entry.now.path.now)) (bind (pieces s c.args.sums c.args.entry.now.tree c.args.entry.now.row.location.objectid
    c.args.entry.now.path.now c.args.inode.now) (closed c.args.entry.now.path.now c.args.inode.now.size c.args.counts.now))
    (outside_of g.T.TreeSink.sink g.T.TreeSink.account g.O.Out.text g.O.Out.account c.args.ends.now.tree.now c.args.ends.now.out.now) (outside
    (g.T.TreeSink.sink c.put_mkfile.new.tree) (g.T.TreeSink.account c.put_mkfile.new.tree) (g.O.Out.text c.args.ends.now.out.now)
    (g.O.Out.account c.args.ends.now.out.now)) _ _ _ _ c.requires.ready
    (c.in_ok-put_mkfile.ensures.wrote (g.O.Out.text c.args.ends.now.out.now) (g.O.Out.account c.args.ends.now.out.now))
    (ran_then (pieces s c.args.sums c.args.entry.now.tree c.args.entry.now.row.location.objectid c.args.entry.now.path.now c.args.inode.now)
    (closed c.args.entry.now.path.now c.args.inode.now.size c.args.counts.now) (world (g.R.Rack.seen c.args.ends.now.rack.now) c.args.ends.now.vol.now (outside
    (g.T.TreeSink.sink c.put_mkfile.new.tree) (g.T.TreeSink.account c.put_mkfile.new.tree) (g.O.Out.text c.args.ends.now.out.now)
    (g.O.Out.account c.args.ends.now.out.now))) (world (g.R.Rack.seen c.write_bytes.new.rack) c.write_bytes.new.vol (outside
    (g.T.TreeSink.sink c.write_bytes.new.tree) (g.T.TreeSink.account c.write_bytes.new.tree) (g.O.Out.text c.args.ends.now.out.now)
    (g.O.Out.account c.args.ends.now.out.now))) _ c.in_ok-sent.sent _ h (ran_wrote _ _ _ _ _ _ h.ready c.close_file.ensures.wrote))
