use Rattle.std.proofs.Common.{◌≡◌, ℕ, List, [], length, Ok, Err, ap, subst, arith}
use Rattle.btr_files.specs.declared.counts.Counts.{Counts}
use Rattle.btr_prog.specs.Prog.{Emit, Return, bind}
use Rattle.btr_rack.specs.Sink.{Sink}
use Rattle.btr_restore.specs.Journey.{directory}
use Rattle.btr_listing.specs.Lines.{counts_line, no_counts}
use Rattle.btr_restore.specs.Ends.{world_of}
use Rattle.btr_restore.specs.Running.{Ran, outside, outside_of, world}
use Rattle.btr_listing.specs.Step.{Line, Start}
use Rattle.btr_restore.proofs.Rans.{ran_halt, ran_passed, ran_then, ran_wrote, row_halt, row_ran}
use Rattle.btr_restore.proofs.restoring.list_into.Goals as goal

pub returns-in_err-start_in-clause-ran : goal.returns-in_err-start_in-clause-ran
returns-in_err-start_in-clause-ran g c s e =
    ran_passed _ c.from_residual.ensures.1
    (ran_wrote _ _ _ _ _ _ c.requires.ready
    (row_halt _ _ _ _ _ _ (c.in_err-start_in.ensures.wrote (g.O.Out.text c.args.ends.now.out.now) (g.O.Out.account c.args.ends.now.out.now))))

pub returns-clause-ran : goal.returns-clause-ran
returns-clause-ran g c s e =
    let places : length c.in-Some.below.now ≡ 512 = omega (arith, c.in-Some.ensures.cases.1, c.requires.dirs) in
    let h = (subst (λ (k : ℕ). Ran (directory c.args.job.now.plan s c.args.job.now.sums k c.args.root.now c.args.root.now.dirid [] no_counts) (world
    (g.R.Rack.seen c.args.ends.now.rack.now) c.args.ends.now.vol.now (outside (g.T.TreeSink.sink c.start_in.new.tree) (g.T.TreeSink.account c.start_in.new.tree)
    (g.O.Out.text c.args.ends.now.out.now) (g.O.Out.account c.args.ends.now.out.now))) (world_of g.R.Rack.seen g.T.TreeSink.sink g.T.TreeSink.account
    g.O.Out.text g.O.Out.account c.list.new.ends)
    (Ok c.list.new.counts)) places
    (subst (λ (p : List ℕ). Ran (directory c.args.job.now.plan s c.args.job.now.sums
    (length c.in-Some.below.now) c.args.root.now c.args.root.now.dirid p no_counts) (world (g.R.Rack.seen c.args.ends.now.rack.now) c.args.ends.now.vol.now
    (outside
    (g.T.TreeSink.sink c.start_in.new.tree) (g.T.TreeSink.account c.start_in.new.tree) (g.O.Out.text c.args.ends.now.out.now)
    (g.O.Out.account c.args.ends.now.out.now))) (world_of g.R.Rack.seen g.T.TreeSink.sink g.T.TreeSink.account g.O.Out.text g.O.Out.account c.list.new.ends)
    (Ok c.list.new.counts)) c.requires.path (c.in_ok-list.ensures.ran s e))) in
    row_ran _ (Start c.args.dest.now) (bind (directory c.args.job.now.plan s c.args.job.now.sums 512 c.args.root.now c.args.root.now.dirid []
    no_counts) (λ (counts : Counts). Emit (Line (counts_line counts)) (Return counts))) _ _
    (outside_of g.T.TreeSink.sink g.T.TreeSink.account g.O.Out.text g.O.Out.account c.args.ends.now.tree.now c.args.ends.now.out.now) (outside
    (g.T.TreeSink.sink c.start_in.new.tree) (g.T.TreeSink.account c.start_in.new.tree)
    (g.O.Out.text c.args.ends.now.out.now) (g.O.Out.account c.args.ends.now.out.now)) _ _ c.requires.ready
    (c.in_ok-start_in.ensures.wrote (g.O.Out.text c.args.ends.now.out.now) (g.O.Out.account c.args.ends.now.out.now))
    (ran_then (directory c.args.job.now.plan s c.args.job.now.sums 512 c.args.root.now c.args.root.now.dirid [] no_counts)
    (λ (counts : Counts). Emit (Line (counts_line counts)) (Return counts))
    (world (g.R.Rack.seen c.args.ends.now.rack.now) c.args.ends.now.vol.now
    (outside (g.T.TreeSink.sink c.start_in.new.tree) (g.T.TreeSink.account c.start_in.new.tree) (g.O.Out.text c.args.ends.now.out.now)
    (g.O.Out.account c.args.ends.now.out.now))) (world_of g.R.Rack.seen g.T.TreeSink.sink g.T.TreeSink.account g.O.Out.text g.O.Out.account
    c.list.new.ends) _ c.list.new.counts _ h (ran_wrote _ _ _ _ _ _ h.ready (c.tell_counts.ensures _ _)))

pub returns-in_err-list-clause-ran : goal.returns-in_err-list-clause-ran
returns-in_err-list-clause-ran g c s e =
    let places : length c.in-Some.below.now ≡ 512 = omega (arith, c.in-Some.ensures.cases.1, c.requires.dirs) in
    ran_passed _ c.from_residual-in_err-list.ensures.1
    (row_ran _ (Start c.args.dest.now) (bind (directory c.args.job.now.plan s c.args.job.now.sums 512 c.args.root.now c.args.root.now.dirid []
    no_counts) (λ (counts : Counts). Emit (Line (counts_line counts)) (Return counts))) _ _
    (outside_of g.T.TreeSink.sink g.T.TreeSink.account g.O.Out.text g.O.Out.account c.args.ends.now.tree.now c.args.ends.now.out.now) (outside
    (g.T.TreeSink.sink c.start_in.new.tree) (g.T.TreeSink.account c.start_in.new.tree)
    (g.O.Out.text c.args.ends.now.out.now) (g.O.Out.account c.args.ends.now.out.now)) _ _ c.requires.ready
    (c.in_ok-start_in.ensures.wrote (g.O.Out.text c.args.ends.now.out.now) (g.O.Out.account c.args.ends.now.out.now))
    (ran_halt (directory c.args.job.now.plan s c.args.job.now.sums 512 c.args.root.now c.args.root.now.dirid [] no_counts)
    (λ (counts : Counts). Emit (Line (counts_line counts)) (Return counts))
    (world (g.R.Rack.seen c.args.ends.now.rack.now) c.args.ends.now.vol.now
    (outside (g.T.TreeSink.sink c.start_in.new.tree) (g.T.TreeSink.account c.start_in.new.tree) (g.O.Out.text c.args.ends.now.out.now)
    (g.O.Out.account c.args.ends.now.out.now))) (world_of g.R.Rack.seen g.T.TreeSink.sink g.T.TreeSink.account g.O.Out.text g.O.Out.account c.list.new.ends)
    (world_of g.R.Rack.seen g.T.TreeSink.sink g.T.TreeSink.account g.O.Out.text g.O.Out.account c.list.new.ends) c.in_err-list.field-0.0
    (subst (λ (k : ℕ). Ran (directory c.args.job.now.plan s c.args.job.now.sums k c.args.root.now c.args.root.now.dirid [] no_counts)
    (world (g.R.Rack.seen c.args.ends.now.rack.now) c.args.ends.now.vol.now
    (outside (g.T.TreeSink.sink c.start_in.new.tree) (g.T.TreeSink.account c.start_in.new.tree) (g.O.Out.text c.args.ends.now.out.now)
    (g.O.Out.account c.args.ends.now.out.now))) (world_of g.R.Rack.seen g.T.TreeSink.sink g.T.TreeSink.account g.O.Out.text g.O.Out.account c.list.new.ends)
    (Err c.in_err-list.field-0.0)) places
    (subst (λ (p : List ℕ). Ran (directory c.args.job.now.plan s c.args.job.now.sums (length c.in-Some.below.now) c.args.root.now
    c.args.root.now.dirid p no_counts) (world (g.R.Rack.seen c.args.ends.now.rack.now) c.args.ends.now.vol.now
    (outside (g.T.TreeSink.sink c.start_in.new.tree) (g.T.TreeSink.account c.start_in.new.tree) (g.O.Out.text c.args.ends.now.out.now)
    (g.O.Out.account c.args.ends.now.out.now))) (world_of g.R.Rack.seen g.T.TreeSink.sink g.T.TreeSink.account g.O.Out.text g.O.Out.account c.list.new.ends)
    (Err c.in_err-list.field-0.0)) c.requires.path (c.in_err-list.ensures.ran s e)))))

pub list-requires-clause-room : goal.list-requires-clause-room
list-requires-clause-room g c = λ wet.
    let top : (g.T.TreeSink.sink c.start_in.new.tree).depth ≡ 0 = ap (λ (s : Sink). s.depth) (c.in_ok-start_in.ensures.after wet) in
    omega (arith, top, c.in-Some.ensures.cases.1, c.requires.dirs)
