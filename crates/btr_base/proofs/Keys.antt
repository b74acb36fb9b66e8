-- The order of keys, and their numbers.
use Rattle.std.proofs.Common.{◌≡◌, ◌^◌, ◌<◌, arith}
use Rattle.std.specs.Ordering.{nat_cmp}
use Rattle.std.proofs.lemmas.Grind.{common_steps}
use Rattle.btr_base.specs.declared.key.Key.{Key}
use Rattle.btr_base.specs.Key.{key_cmp, key_number}

-- the fields have the sizes of their types
pub record IsKey (key : Key) : Type 0 where
  pub kind : key.kind < 256
  pub offset : key.offset < 2 ^ 64

-- keys are ordered as their numbers are
pub key_cmp-number : (a b : Key) → IsKey a → IsKey b → key_cmp a b ≡ nat_cmp (key_number a) (key_number b)
key_cmp-number a b p q = grind (arith, common_steps)

-- keys with one number are one key
pub key_number-same : (a b : Key) → IsKey a → IsKey b → key_number a ≡ key_number b → a ≡ b
key_number-same a b p q same =
    let objectid : a.objectid ≡ b.objectid = omega arith in
    let kind : a.kind ≡ b.kind = omega arith in
    let offset : a.offset ≡ b.offset = omega arith in
    λ i. record { objectid = objectid i; kind = kind i; offset = offset i }
