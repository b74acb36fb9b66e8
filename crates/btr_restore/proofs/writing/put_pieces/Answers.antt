use Rattle.btr_restore.proofs.Writings.{writes_ended, written_passed}
use Rattle.btr_restore.proofs.writing.put_pieces.Goals as goal

pub returns-in_err-after-clause-writes : goal.returns-in_err-after-clause-writes
returns-in_err-after-clause-writes g c whole x text calls l =
    written_passed _ c.from_residual.ensures.1 (c.in_err-after.ensures.writes whole x text calls (c.loop-after.invariant.4 whole x text calls l))

pub returns-clause-writes : goal.returns-clause-writes
returns-clause-writes g c whole x text calls l =
    writes_ended c.loop-after.plain c.in_ok-after.field-0 c.in_default.not-Some
    (c.in_ok-after.ensures.writes whole x text calls (c.loop-after.invariant.4 whole x text calls l))
