use Rattle.std.proofs.Common.{◌≡◌, ◌*◌}
use Rattle.btr_parity.specs.Field.{product}
use Rattle.btr_parity.proofs.Slicewise.{over}
use Rattle.btr_parity.proofs.multiples.Multiples.scale.Given as goal

abbrev pub invariant-loop-k : goal.invariant-loop-k
invariant-loop-k l = l.slice ≡ over (λ x y. product l.fn.self.factor x) (16 * l.k) l.fn.slice l.fn.slice

abbrev pub invariant-loop-i : goal.invariant-loop-i
invariant-loop-i l = l.slice ≡ over (λ x y. product l.fn.self.factor x) l.i l.fn.slice l.fn.slice
