use Rattle.std.proofs.Common.{◌<◌, length, arith}
use Rattle.btr_pool.proofs.Hand.{in_hand_taken, in_hand_live, in_hand_given}
use Rattle.btr_pool.proofs.tests.lend_all.Goals as goal

pub lending-preserved : goal.lending-preserved
lending-preserved g c = in_hand_taken c.lending.pool c.take-loan.new.pool c.mark.new.pool c.args.size c.take-loan.result _ c.lending.loans.items
    c.keep.new.loans.items c.lending.invariant c.take-loan.ensures.was_free c.take-loan.ensures.lent c.mark.ensures c.keep.ensures

pub bytes-requires : goal.bytes-requires
bytes-requires g c =
    let there : c.place-place.result < length c.giving.loans.items = omega (arith, c.place-place.ensures, c.len.ensures, c.giving.loans.ok.0) in
    in_hand_live c.giving.pool c.args.size c.place-place.result c.remove-loan.result c.giving.loans.items c.giving.invariant there c.remove-loan.ensures.value

pub give-requires : goal.give-requires
give-requires g c =
    let there : c.place-place.result < length c.giving.loans.items = omega (arith, c.place-place.ensures, c.len.ensures, c.giving.loans.ok.0) in
    in_hand_live c.giving.pool c.args.size c.place-place.result c.remove-loan.result c.giving.loans.items c.giving.invariant there c.remove-loan.ensures.value

pub giving-preserved : goal.giving-preserved
giving-preserved g c =
    let there : c.place-place.result < length c.giving.loans.items = omega (arith, c.place-place.ensures, c.len.ensures, c.giving.loans.ok.0) in
    in_hand_given c.giving.pool c.give.new.self c.args.size c.place-place.result c.remove-loan.result c.giving.loans.items
    c.remove-loan.new.self.items c.giving.invariant there c.remove-loan.ensures.value c.give.ensures c.remove-loan.ensures.items
