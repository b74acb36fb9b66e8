use Rattle.std.proofs.Common.{ℕ, Ok, sym, subst}
use Rattle.btr_restore.specs.Journey.{Within, entered}
use Rattle.btr_restore.specs.Running.{Wrote, outside, outside_of}
use Rattle.btr_restore.proofs.Rans.{came_passed, line_halt, line_then, row_halt, row_then, wrote_none, wrote_passed}
use Rattle.btr_restore.proofs.entering.enter.Goals as goal

pub returns-in_err-make_dir-clause-wrote : goal.returns-in_err-make_dir-clause-wrote
returns-in_err-make_dir-clause-wrote g c =
    wrote_passed _ (came_passed _ _ _ c.from_residual.ensures.1)
    (row_halt _ _ _ _ _ _ (c.in_err-make_dir.ensures.wrote (g.O.Out.text c.args.out.now) (g.O.Out.account c.args.out.now)))

pub returns-in_err-tell-clause-wrote : goal.returns-in_err-tell-clause-wrote
returns-in_err-tell-clause-wrote g c =
    wrote_passed _ (came_passed _ _ _ c.from_residual-in_err-tell.ensures.1)
    (row_then _ _ _ _ _ _ _ (c.in_ok-make_dir.ensures.wrote (g.O.Out.text c.args.out.now) (g.O.Out.account c.args.out.now))
    (line_halt _ _ _ _ _ _ (c.in_err-tell.ensures (g.T.TreeSink.sink c.make_dir.new.tree) (g.T.TreeSink.account c.make_dir.new.tree))))

pub returns-clause-wrote : goal.returns-clause-wrote
returns-clause-wrote g c =
    subst (λ (n : ℕ). Wrote (entered c.args.dir.now.job.now.plan c.args.name.now c.args.path.now c.args.dir.now.tree c.args.dir.now.dirid c.args.counts.now)
    (outside_of g.T.TreeSink.sink g.T.TreeSink.account g.O.Out.text g.O.Out.account c.args.tree.now c.args.out.now)
    (outside (g.T.TreeSink.sink c.make_dir.new.tree) (g.T.TreeSink.account c.make_dir.new.tree) (g.O.Out.text c.tell.new.out) (g.O.Out.account c.tell.new.out))
    (Ok (Within c.args.dir.now.tree c.args.dir.now.dirid (record { dirs = n; files = c.args.counts.now.files; skipped = c.args.counts.now.skipped }))))
    (sym c.more-counts.ensures)
    (row_then _ _ _ _ _ _ _ (c.in_ok-make_dir.ensures.wrote (g.O.Out.text c.args.out.now) (g.O.Out.account c.args.out.now))
    (line_then _ _ _ _ _ _ _ (c.in_ok-tell.ensures (g.T.TreeSink.sink c.make_dir.new.tree) (g.T.TreeSink.account c.make_dir.new.tree))
    (wrote_none _ _)))
