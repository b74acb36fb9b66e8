use Rattle.std.proofs.Common.{◌≡◌, bit_xor}
use Rattle.btr_parity.specs.Field.{product}
use Rattle.btr_parity.proofs.Slicewise.{over}
use Rattle.btr_parity.proofs.fold.double_and_add.Given as goal

abbrev pub invariant-loop-i : goal.invariant-loop-i
invariant-loop-i l = l.acc ≡ over (λ x y. bit_xor (product 2 x) y) l.i l.fn.acc l.piece
