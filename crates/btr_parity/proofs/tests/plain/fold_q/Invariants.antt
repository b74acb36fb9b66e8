use Rattle.std.proofs.Common.{◌≡◌, bit_xor}
use Rattle.btr_parity.specs.Field.{product, power}
use Rattle.btr_parity.proofs.Slicewise.{over}
use Rattle.btr_parity.proofs.tests.plain.fold_q.Given as goal

abbrev pub invariant-loop-i : goal.invariant-loop-i
invariant-loop-i l = l.acc ≡ over (λ x y. bit_xor x (product (power l.index) y)) l.i l.fn.acc l.piece
