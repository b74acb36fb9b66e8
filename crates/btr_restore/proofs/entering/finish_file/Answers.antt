use Rattle.std.proofs.Common.{ℕ, Ok, sym, subst}
use Rattle.btr_restore.specs.Journey.{Over, closed}
use Rattle.btr_restore.specs.Running.{Wrote, outside}
use Rattle.btr_restore.proofs.Rans.{came_passed, line_halt, line_then, row_halt, row_then, wrote_none, wrote_passed}
use Rattle.btr_restore.proofs.entering.finish_file.Goals as goal

pub returns-in_err-close_file-clause-wrote : goal.returns-in_err-close_file-clause-wrote
returns-in_err-close_file-clause-wrote g c =
    wrote_passed _ (came_passed _ _ _ c.from_residual.ensures.1)
    (row_halt _ _ _ _ _ _ (c.in_err-close_file.ensures.wrote (g.O.Out.text c.args.out.now) (g.O.Out.account c.args.out.now)))

pub returns-in_err-tell-clause-wrote : goal.returns-in_err-tell-clause-wrote
returns-in_err-tell-clause-wrote g c =
    wrote_passed _ (came_passed _ _ _ c.from_residual-in_err-tell.ensures.1)
    (row_then _ _ _ _ _ _ _ (c.in_ok-close_file.ensures.wrote (g.O.Out.text c.args.out.now) (g.O.Out.account c.args.out.now))
    (line_halt _ _ _ _ _ _ (c.in_err-tell.ensures (g.T.TreeSink.sink c.close_file.new.tree) (g.T.TreeSink.account c.close_file.new.tree))))

pub returns-in_err-tell_unverified-clause-wrote : goal.returns-in_err-tell_unverified-clause-wrote
returns-in_err-tell_unverified-clause-wrote g c =
    wrote_passed _ (came_passed _ _ _ c.from_residual-in_err-tell_unverified.ensures.1)
    (row_then _ _ _ _ _ _ _ (c.in_ok-close_file.ensures.wrote (g.O.Out.text c.args.out.now) (g.O.Out.account c.args.out.now))
    (line_then _ _ _ _ _ _ _ (c.in_ok-tell.ensures (g.T.TreeSink.sink c.close_file.new.tree) (g.T.TreeSink.account c.close_file.new.tree))
    (line_halt _ _ _ _ _ _ (c.in_err-tell_unverified.ensures (g.T.TreeSink.sink c.close_file.new.tree) (g.T.TreeSink.account c.close_file.new.tree)))))

pub returns-clause-wrote : goal.returns-clause-wrote
returns-clause-wrote g c =
    subst (λ (n : ℕ). Wrote (closed c.args.job.now.plan c.args.path.now c.args.counts.now c.args.plain)
    (outside (g.T.TreeSink.sink c.args.tree.now) (g.T.TreeSink.account c.args.tree.now) (g.O.Out.text c.args.out.now) (g.O.Out.account c.args.out.now))
    (outside (g.T.TreeSink.sink c.close_file.new.tree) (g.T.TreeSink.account c.close_file.new.tree) (g.O.Out.text c.tell_unverified.new.out)
    (g.O.Out.account c.tell_unverified.new.out))
    (Ok (Over (record { dirs = c.args.counts.now.dirs; files = n; skipped = c.args.counts.now.skipped })))) (sym c.more-counts.ensures)
    (row_then _ _ _ _ _ _ _ (c.in_ok-close_file.ensures.wrote (g.O.Out.text c.args.out.now) (g.O.Out.account c.args.out.now))
    (line_then _ _ _ _ _ _ _ (c.in_ok-tell.ensures (g.T.TreeSink.sink c.close_file.new.tree) (g.T.TreeSink.account c.close_file.new.tree))
    (line_then _ _ _ _ _ _ _ (c.in_ok-tell_unverified.ensures (g.T.TreeSink.sink c.close_file.new.tree) (g.T.TreeSink.account c.close_file.new.tree))
    (wrote_none _ _))))
