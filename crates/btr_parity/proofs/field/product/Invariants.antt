use Rattle.std.proofs.Common.{◌≡◌, ◌%◌, ◌^◌}
use Rattle.btr_parity.specs.Field.{product, power}
use Rattle.btr_parity.proofs.field.product.Given as goal

-- the sum is that of the bits so far
abbrev pub invariant-loop-k : goal.invariant-loop-k
invariant-loop-k l = (l.multiple ≡ product l.fn.a (power l.k)) × (l.sum ≡ product l.fn.a (l.fn.b % 2 ^ l.k))
