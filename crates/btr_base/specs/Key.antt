-- The keys of items.
use Rattle.std.specs.Prelude.{ℕ, ◌+◌, ◌*◌, ◌^◌, ◌-◌, Bool, List, nat_lt, nat_le, slice_index}
use Rattle.std.specs.declared.cmp.Ordering.{Ordering}
use Rattle.std.specs.Ordering.{nat_cmp, on, then_cmp}
use Rattle.btr_base.specs.Field.{number_at}
use Rattle.btr_base.specs.declared.key.Key.{Key}

-- the key in the 17 bytes from an offset
abbrev pub key_at : ℕ → List ℕ → Key
key_at off bytes = record { objectid = number_at 8 off bytes; kind = slice_index bytes (off + 8); offset = number_at 8 (off + 9) bytes }

-- the number of a key: keys are ordered as their numbers are
abbrev pub key_number : Key → ℕ
key_number key = (key.objectid * 256 + key.kind) * 2 ^ 64 + key.offset

-- keys are ordered by objectid, then kind, then offset
abbrev pub key_cmp : Key → Key → Ordering
key_cmp = then_cmp (on (λ key. key.objectid) nat_cmp) (then_cmp (on (λ key. key.kind) nat_cmp) (on (λ key. key.offset) nat_cmp))

-- the last key there is
abbrev pub last_key : Key
last_key = record { objectid = 2 ^ 64 - 1; kind = 255; offset = 2 ^ 64 - 1 }

-- a key stands before another one
abbrev pub key_lt : Key → Key → Bool
key_lt a b = nat_lt (key_number a) (key_number b)

-- a key stands before another one or is that one
abbrev pub key_le : Key → Key → Bool
key_le a b = nat_le (key_number a) (key_number b)
