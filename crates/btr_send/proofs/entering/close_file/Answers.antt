use Rattle.std.proofs.Common.{ℕ, Ok, sym, subst}
use Rattle.btr_restore.specs.Journey.{Over}
use Rattle.btr_restore.specs.Running.{Wrote, outside, outside_of}
use Rattle.btr_restore.proofs.Rans.{came_passed, line_halt, line_then, wrote_none, wrote_passed}
use Rattle.btr_send.specs.Sending.{closed}
use Rattle.btr_send.proofs.Putting.{step_halt, step_then}
use Rattle.btr_send.proofs.entering.close_file.Goals as goal

pub returns-in_err-put_truncate-clause-wrote : goal.returns-in_err-put_truncate-clause-wrote
returns-in_err-put_truncate-clause-wrote g c =
    wrote_passed _ (came_passed _ _ _ c.from_residual.ensures.1)
    (step_halt _ _ _ _ _ (c.in_err-put_truncate.ensures.wrote (g.O.Out.text c.args.out.now) (g.O.Out.account c.args.out.now)))

pub returns-in_err-tell_unverified-clause-wrote : goal.returns-in_err-tell_unverified-clause-wrote
returns-in_err-tell_unverified-clause-wrote g c =
    wrote_passed _ (came_passed _ _ _ c.from_residual-in_err-tell_unverified.ensures.1)
    (step_then _ _ _ _ _ _ (c.in_ok-put_truncate.ensures.wrote (g.O.Out.text c.args.out.now) (g.O.Out.account c.args.out.now))
    (line_halt _ _ _ _ _ _ (c.in_err-tell_unverified.ensures (g.T.TreeSink.sink c.put_truncate.new.tree) (g.T.TreeSink.account c.put_truncate.new.tree))))

pub returns-clause-wrote : goal.returns-clause-wrote
returns-clause-wrote g c =
    subst (λ (n : ℕ). Wrote (closed c.args.file.now.path.now c.args.size c.args.counts.now c.args.file.now.sent)
    (outside_of g.T.TreeSink.sink g.T.TreeSink.account g.O.Out.text g.O.Out.account c.args.tree.now c.args.out.now)
    (outside (g.T.TreeSink.sink c.put_truncate.new.tree) (g.T.TreeSink.account c.put_truncate.new.tree) (g.O.Out.text c.tell_unverified.new.out)
    (g.O.Out.account c.tell_unverified.new.out))
    (Ok (Over (record { dirs = c.args.counts.now.dirs; files = n; skipped = c.args.counts.now.skipped })))) (sym c.more-counts.ensures)
    (step_then _ _ _ _ _ _ (c.in_ok-put_truncate.ensures.wrote (g.O.Out.text c.args.out.now) (g.O.Out.account c.args.out.now))
    (line_then _ _ _ _ _ _ _ (c.in_ok-tell_unverified.ensures (g.T.TreeSink.sink c.put_truncate.new.tree) (g.T.TreeSink.account c.put_truncate.new.tree))
    (wrote_none _ _)))
