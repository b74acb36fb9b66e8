-- Entries or references that stand in a body one after another.
use Rattle.std.specs.Prelude.{ℕ, zero, suc, ◌==◌, if◌then◌else◌, List, [], ◌∷◌, length, Result, Ok, Err}
use Rattle.btr_items.specs.declared.fault.ItemFault.{ItemFault}

-- what was read, and the parts behind it; a fault is the last
abbrev pub followed_by : {T : Type 0} → Result T ItemFault → (T → List (Result T ItemFault)) → List (Result T ItemFault)
followed_by (Ok part) rest = Ok part ∷ rest part
followed_by (Err fault) rest = Err fault ∷ []

-- where the parts go on behind what was read: behind a fault there are none
abbrev pub place_behind : {T : Type 0} → (T → ℕ) → ℕ → Result T ItemFault → ℕ
place_behind end_of size (Ok part) = end_of part
place_behind end_of size (Err fault) = size

module _ {T : Type 0} (part_at : ℕ → List ℕ → Result T ItemFault) (end_of : T → ℕ) where
  -- the parts from a place to the body's last byte, at most so many: each begins where the one before it ends
  unfoldable pub parts_within : ℕ → ℕ → List ℕ → List (Result T ItemFault)
  parts_within zero at body = []
  parts_within (suc most) at body = if at == length body then [] else followed_by (part_at at body) (λ part. parts_within most (end_of part) body)

  -- the parts from a place to the body's last byte, which are no more than the body has bytes
  abbrev pub parts_from : ℕ → List ℕ → List (Result T ItemFault)
  parts_from at body = parts_within (length body) at body
