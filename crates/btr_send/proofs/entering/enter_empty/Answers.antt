use Rattle.std.proofs.Common.{ℕ, Ok, sym, subst}
use Rattle.btr_restore.specs.Journey.{Over}
use Rattle.btr_restore.specs.Running.{Wrote, outside}
use Rattle.btr_restore.proofs.Rans.{came_passed, wrote_none, wrote_passed}
use Rattle.btr_send.specs.Sending.{empty}
use Rattle.btr_send.proofs.Putting.{step_halt, step_then}
use Rattle.btr_send.proofs.entering.enter_empty.Goals as goal

pub returns-in_err-put_mkdir-clause-wrote : goal.returns-in_err-put_mkdir-clause-wrote
returns-in_err-put_mkdir-clause-wrote g c text calls =
    wrote_passed _ (came_passed _ _ _ c.from_residual.ensures.1)
    (step_halt _ _ _ _ _ (c.in_err-put_mkdir.ensures.wrote text calls))

pub returns-clause-wrote : goal.returns-clause-wrote
returns-clause-wrote g c text calls =
    subst (λ (n : ℕ). Wrote (empty c.args.path.now c.args.counts.now)
    (outside (g.T.TreeSink.sink c.args.tree.now) (g.T.TreeSink.account c.args.tree.now) text calls)
    (outside (g.T.TreeSink.sink c.put_mkdir.new.tree) (g.T.TreeSink.account c.put_mkdir.new.tree) text calls)
    (Ok (Over (record { dirs = n; files = c.args.counts.now.files; skipped = c.args.counts.now.skipped })))) (sym c.more-counts.ensures)
    (step_then _ _ _ _ _ _ (c.in_ok-put_mkdir.ensures.wrote text calls) (wrote_none _ _))
