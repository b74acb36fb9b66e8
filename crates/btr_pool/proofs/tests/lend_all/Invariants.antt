use Rattle.std.proofs.Common.{vec_len}
use Rattle.btr_pool.proofs.Hand.{InHand}
use Rattle.btr_pool.proofs.tests.lend_all.Given as goal

abbrev pub invariant-lending : goal.invariant-lending
invariant-lending g l = InHand l.pool l.size l.loans.items

abbrev pub invariant-giving : goal.invariant-giving
invariant-giving g l = InHand l.pool l.size l.loans.items

abbrev pub decreases-giving : goal.decreases-giving
decreases-giving g l = vec_len l.loans
