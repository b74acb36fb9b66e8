use Rattle.std.proofs.Common.{arith}
use Rattle.btr_rack.specs.History.{nothing_moved}
use Rattle.btr_rack.specs.declared.raw_call.RawCall.TheVariants.{Read}
use Rattle.btr_rack.proofs.Transfers.{fell_short, moves_again, moves_refused, moves_too_often, reads_piece, still_read}
use Rattle.btr_rack.proofs.transfer.fill.Goals as goal

pub loop-done-init : goal.loop-done-init
loop-done-init c = record { inside = omega arith; few = omega arith; moves = nothing_moved }

pub loop-done-preserved-in-Done : goal.loop-done-preserved-in-Done
loop-done-preserved-in-Done c =
    let inv = c.loop-done.invariant in
    let noted = c.in-Done.ensures in
    let next = reads_piece Read _ _ _ _ _ _ _ _ _ inv.moves c.loop-done-test.true noted.0 noted.1 c.read.auto.buf noted.2 in
    record { inside = next.0; few = inv.few; moves = next.1 }

pub loop-done-preserved : goal.loop-done-preserved
loop-done-preserved c =
    let inv = c.loop-done.invariant in
    still_read Read _ _ _ _ _ _ _ c.loop-done-test.true c.read.auto.buf (omega arith) (moves_again Read _ _ _ _ _ _ inv.moves c.in-Interrupted.ensures)

pub returns-in-Refused-clause-cause : goal.returns-in-Refused-clause-cause
returns-in-Refused-clause-cause c = λ _.
    let inv = c.loop-done.invariant in
    fell_short Read _ _ _ _ _ _ c.loop-done-test.true c.read.auto.buf (moves_refused Read _ _ _ _ _ _ inv.few inv.moves c.in-Refused.ensures)

pub returns-then-again-ge-TRIES_AGAIN-clause-cause : goal.returns-then-again-ge-TRIES_AGAIN-clause-cause
returns-then-again-ge-TRIES_AGAIN-clause-cause c = λ _.
    let inv = c.loop-done.invariant in
    fell_short Read _ _ _ _ _ _ c.loop-done-test.true c.read.auto.buf
    (moves_too_often Read _ _ _ _ _ _ inv.few (omega arith) inv.moves c.in-Interrupted.ensures)
