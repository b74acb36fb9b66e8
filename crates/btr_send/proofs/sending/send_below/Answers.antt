use Rattle.std.proofs.Common.{◌≡◌, ℕ, List, [], length, Ok, Err, subst, arith}
use Rattle.btr_listing.specs.Lines.{no_counts}
use Rattle.btr_restore.specs.Ends.{world_of}
use Rattle.btr_restore.specs.Running.{Ran}
use Rattle.btr_restore.proofs.Rans.{ran_halt, ran_passed, ran_then, ran_wrote}
use Rattle.btr_send.specs.Sending.{directory, ended}
use Rattle.btr_send.proofs.sending.send_below.Goals as goal

pub returns-clause-ran : goal.returns-clause-ran
returns-clause-ran g c s e =
    let places : length c.in-Some.below.now ≡ 512 = omega (arith, c.in-Some.ensures.cases.1, c.requires.dirs) in
    let h = (subst (λ (k : ℕ). Ran (directory s c.args.sums k c.args.source.now.root c.args.source.now.root.dirid [] no_counts)
    (world_of g.R.Rack.seen g.T.TreeSink.sink g.T.TreeSink.account g.O.Out.text g.O.Out.account c.args.ends.now)
    (world_of g.R.Rack.seen g.T.TreeSink.sink g.T.TreeSink.account g.O.Out.text g.O.Out.account c.list.new.ends)
    (Ok c.list.new.counts)) places
    (subst (λ (p : List ℕ). Ran (directory s c.args.sums (length c.in-Some.below.now) c.args.source.now.root c.args.source.now.root.dirid p no_counts)
    (world_of g.R.Rack.seen g.T.TreeSink.sink g.T.TreeSink.account g.O.Out.text g.O.Out.account c.args.ends.now)
    (world_of g.R.Rack.seen g.T.TreeSink.sink g.T.TreeSink.account g.O.Out.text g.O.Out.account c.list.new.ends)
    (Ok c.list.new.counts)) c.requires.path (c.in_ok-list.ensures.ran s e))) in
    ran_then (directory s c.args.sums 512 c.args.source.now.root c.args.source.now.root.dirid [] no_counts) ended
    (world_of g.R.Rack.seen g.T.TreeSink.sink g.T.TreeSink.account g.O.Out.text g.O.Out.account c.args.ends.now)
    (world_of g.R.Rack.seen g.T.TreeSink.sink g.T.TreeSink.account g.O.Out.text g.O.Out.account c.list.new.ends) _ c.list.new.counts _ h
    (ran_wrote _ _ _ _ _ _ h.ready c.finish.ensures)

pub returns-in_err-list-clause-ran : goal.returns-in_err-list-clause-ran
returns-in_err-list-clause-ran g c s e =
    let places : length c.in-Some.below.now ≡ 512 = omega (arith, c.in-Some.ensures.cases.1, c.requires.dirs) in
    ran_passed _ c.from_residual.ensures.1 (ran_halt (directory s c.args.sums 512 c.args.source.now.root c.args.source.now.root.dirid [] no_counts) ended
    (world_of g.R.Rack.seen g.T.TreeSink.sink g.T.TreeSink.account g.O.Out.text g.O.Out.account c.args.ends.now)
    (world_of g.R.Rack.seen g.T.TreeSink.sink g.T.TreeSink.account g.O.Out.text g.O.Out.account c.list.new.ends)
    (world_of g.R.Rack.seen g.T.TreeSink.sink g.T.TreeSink.account g.O.Out.text g.O.Out.account c.list.new.ends) c.in_err-list.field-0.0
    (subst (λ (k : ℕ). Ran (directory s c.args.sums k c.args.source.now.root c.args.source.now.root.dirid [] no_counts)
    (world_of g.R.Rack.seen g.T.TreeSink.sink g.T.TreeSink.account g.O.Out.text g.O.Out.account c.args.ends.now)
    (world_of g.R.Rack.seen g.T.TreeSink.sink g.T.TreeSink.account g.O.Out.text g.O.Out.account c.list.new.ends)
    (Err c.in_err-list.field-0.0)) places
    (subst (λ (p : List ℕ). Ran (directory s c.args.sums (length c.in-Some.below.now) c.args.source.now.root c.args.source.now.root.dirid p no_counts)
    (world_of g.R.Rack.seen g.T.TreeSink.sink g.T.TreeSink.account g.O.Out.text g.O.Out.account c.args.ends.now)
    (world_of g.R.Rack.seen g.T.TreeSink.sink g.T.TreeSink.account g.O.Out.text g.O.Out.account c.list.new.ends)
    (Err c.in_err-list.field-0.0)) c.requires.path (c.in_err-list.ensures.ran s e))))
