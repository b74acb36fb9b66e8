use Rattle.btr_prog.specs.Prog.{bind}
use Rattle.btr_restore.specs.Journey.{closed, pieces}
use Rattle.btr_restore.specs.Running.{outside, outside_of, world}
use Rattle.btr_listing.specs.Step.{File}
use Rattle.btr_restore.proofs.Rans.{came_passed, ran_halt, ran_passed, ran_then, ran_wrote, row_halt, row_ran}
use Rattle.btr_restore.proofs.entering.write_file.Goals as goal

pub returns-in_err-make_file-clause-ran : goal.returns-in_err-make_file-clause-ran
returns-in_err-make_file-clause-ran g c s e =
    ran_passed _ (came_passed _ _ _ c.from_residual.ensures.1)
    (ran_wrote _ _ _ _ _ _ c.requires.ready
    (row_halt _ _ _ _ _ _ (c.in_err-make_file.ensures.wrote (g.O.Out.text c.args.ends.now.out.now) (g.O.Out.account c.args.ends.now.out.now))))

pub returns-in_err-plain-clause-ran : goal.returns-in_err-plain-clause-ran
returns-in_err-plain-clause-ran g c s e =
    ran_passed _ (came_passed _ _ _ c.from_residual-in_err-plain.ensures.1)
    (row_ran _ (File c.args.name.now) (bind (pieces c.args.job.now.plan s c.args.job.now.sums c.args.entry.now.tree
    c.args.entry.now.row.location.objectid c.args.found.now) (closed c.args.job.now.plan c.args.entry.now.path.now c.args.counts.now)) _ _
    (outside_of g.T.TreeSink.sink g.T.TreeSink.account g.O.Out.text g.O.Out.account c.args.ends.now.tree.now c.args.ends.now.out.now) (outside
    (g.T.TreeSink.sink c.make_file.new.tree) (g.T.TreeSink.account c.make_file.new.tree)
    (g.O.Out.text c.args.ends.now.out.now) (g.O.Out.account c.args.ends.now.out.now)) _ _ c.requires.ready
    (c.in_ok-make_file.ensures.wrote (g.O.Out.text c.args.ends.now.out.now) (g.O.Out.account c.args.ends.now.out.now))
    (ran_halt (pieces c.args.job.now.plan s c.args.job.now.sums c.args.entry.now.tree c.args.entry.now.row.location.objectid c.args.found.now)
    (closed c.args.job.now.plan c.args.entry.now.path.now c.args.counts.now)
    (world (g.R.Rack.seen c.args.ends.now.rack.now) c.args.ends.now.vol.now
    (outside (g.T.TreeSink.sink c.make_file.new.tree) (g.T.TreeSink.account c.make_file.new.tree) (g.O.Out.text c.args.ends.now.out.now)
    (g.O.Out.account c.args.ends.now.out.now))) (world (g.R.Rack.seen c.write_bytes.new.rack) c.write_bytes.new.vol
    (outside (g.T.TreeSink.sink c.write_bytes.new.tree) (g.T.TreeSink.account c.write_bytes.new.tree) (g.O.Out.text c.args.ends.now.out.now)
    (g.O.Out.account c.args.ends.now.out.now))) (world (g.R.Rack.seen c.write_bytes.new.rack) c.write_bytes.new.vol
    (outside (g.T.TreeSink.sink c.write_bytes.new.tree) (g.T.TreeSink.account c.write_bytes.new.tree) (g.O.Out.text c.args.ends.now.out.now)
    (g.O.Out.account c.args.ends.now.out.now))) c.in_err-plain.field-0.0 (c.in_err-plain.ensures.ran s _ _ e)))

pub returns-clause-ran : goal.returns-clause-ran
returns-clause-ran g c s e =
    let h = c.in_ok-plain.ensures.ran s (g.O.Out.text c.args.ends.now.out.now) (g.O.Out.account c.args.ends.now.out.now) e in
    row_ran _ (File c.args.name.now) (bind (pieces c.args.job.now.plan s c.args.job.now.sums c.args.entry.now.tree
    c.args.entry.now.row.location.objectid c.args.found.now) (closed c.args.job.now.plan c.args.entry.now.path.now c.args.counts.now)) _ _
    (outside_of g.T.TreeSink.sink g.T.TreeSink.account g.O.Out.text g.O.Out.account c.args.ends.now.tree.now c.args.ends.now.out.now) (outside
    (g.T.TreeSink.sink c.make_file.new.tree) (g.T.TreeSink.account c.make_file.new.tree)
    (g.O.Out.text c.args.ends.now.out.now) (g.O.Out.account c.args.ends.now.out.now)) _ _ c.requires.ready
    (c.in_ok-make_file.ensures.wrote (g.O.Out.text c.args.ends.now.out.now) (g.O.Out.account c.args.ends.now.out.now))
    (ran_then (pieces c.args.job.now.plan s c.args.job.now.sums c.args.entry.now.tree c.args.entry.now.row.location.objectid c.args.found.now)
    (closed c.args.job.now.plan c.args.entry.now.path.now c.args.counts.now)
    (world (g.R.Rack.seen c.args.ends.now.rack.now) c.args.ends.now.vol.now
    (outside (g.T.TreeSink.sink c.make_file.new.tree) (g.T.TreeSink.account c.make_file.new.tree) (g.O.Out.text c.args.ends.now.out.now)
    (g.O.Out.account c.args.ends.now.out.now))) (world (g.R.Rack.seen c.write_bytes.new.rack) c.write_bytes.new.vol
    (outside (g.T.TreeSink.sink c.write_bytes.new.tree) (g.T.TreeSink.account c.write_bytes.new.tree) (g.O.Out.text c.args.ends.now.out.now)
    (g.O.Out.account c.args.ends.now.out.now))) _ c.in_ok-plain.plain _ h (ran_wrote _ _ _ _ _ _ h.ready (c.finish_file.ensures.wrote)))
