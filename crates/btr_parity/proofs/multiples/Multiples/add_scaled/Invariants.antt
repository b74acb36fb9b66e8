use Rattle.std.proofs.Common.{◌≡◌, ◌*◌, bit_xor}
use Rattle.btr_parity.specs.Field.{product}
use Rattle.btr_parity.proofs.Slicewise.{over}
use Rattle.btr_parity.proofs.multiples.Multiples.add_scaled.Given as goal

abbrev pub invariant-loop-k : goal.invariant-loop-k
invariant-loop-k l = l.acc ≡ over (λ x y. bit_xor x (product l.fn.self.factor y)) (16 * l.k) l.fn.acc l.fn.piece

abbrev pub invariant-loop-i : goal.invariant-loop-i
invariant-loop-i l = l.acc ≡ over (λ x y. bit_xor x (product l.fn.self.factor y)) l.i l.fn.acc l.fn.piece
