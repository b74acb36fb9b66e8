use Rattle.std.proofs.Common.{arith}
use Rattle.btr_rack.specs.History.{nothing_moved}
use Rattle.btr_rack.specs.declared.raw_call.RawCall.TheVariants.{Stored}
use Rattle.btr_rack.proofs.Transfers.{moves_again, moves_refused, moves_too_often, stores_piece}
use Rattle.btr_rack.proofs.transfer.store.Goals as goal

pub loop-done-init : goal.loop-done-init
loop-done-init c = record { inside = omega arith; few = omega arith; moves = nothing_moved }

pub loop-done-preserved-in-Done : goal.loop-done-preserved-in-Done
loop-done-preserved-in-Done c =
    let inv = c.loop-done.invariant in
    let noted = c.in-Done.ensures in
    let next = stores_piece Stored _ _ _ _ _ _ _ _ inv.moves c.loop-done-test.true noted.0 noted.1 noted.2 in
    record { inside = next.0; few = inv.few; moves = next.1 }

pub loop-done-preserved : goal.loop-done-preserved
loop-done-preserved c =
    let inv = c.loop-done.invariant in
    record { inside = inv.inside; few = omega arith; moves = moves_again Stored _ _ _ _ _ _ inv.moves c.in-Interrupted.ensures }

pub returns-in-Refused-clause-cause : goal.returns-in-Refused-clause-cause
returns-in-Refused-clause-cause c = λ _.
    let inv = c.loop-done.invariant in
    moves_refused Stored _ _ _ _ _ _ inv.few inv.moves c.in-Refused.ensures

pub returns-then-again-ge-TRIES_AGAIN-clause-cause : goal.returns-then-again-ge-TRIES_AGAIN-clause-cause
returns-then-again-ge-TRIES_AGAIN-clause-cause c = λ _.
    let inv = c.loop-done.invariant in
    moves_too_often Stored _ _ _ _ _ _ inv.few (omega arith) inv.moves c.in-Interrupted.ensures
