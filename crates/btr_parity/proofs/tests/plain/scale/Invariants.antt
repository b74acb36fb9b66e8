use Rattle.std.proofs.Common.{◌≡◌}
use Rattle.btr_parity.specs.Field.{product, power}
use Rattle.btr_parity.proofs.Slicewise.{over}
use Rattle.btr_parity.proofs.tests.plain.scale.Given as goal

abbrev pub invariant-loop-x : goal.invariant-loop-x
invariant-loop-x l = l.slice ≡ over (λ x y. product (power l.index) x) l.x-index l.fn.slice l.fn.slice
