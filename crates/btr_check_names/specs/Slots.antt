-- Names that wait in a list, with their bytes one behind another.
use Rattle.std.specs.Prelude.{◌≡◌, ℕ, ◌+◌, ◌*◌, ◌<◌, ◌≤◌, ◌==◌, Bool, false, not, cond, List, [], ◌∷◌, take, drop, length}
use Rattle.std.specs.BTreeMap.{is_at}
use Rattle.std.specs.List.{All, AllPairs, HoldsAt}
use Rattle.std.specs.declared.cmp.Ordering.TheVariants.{Less, Equal}
use Rattle.btr_check_names.specs.declared.claim.Claim.{Claim}
use Rattle.btr_check_names.specs.Pairs.{Half, claim_cmp}

-- what is claimed with a name, which of the two items gives it, and where its bytes lie; a name without bytes waits no more
pub record Slot : Type 0 where
  pub claim : Claim
  pub is_first : Bool
  pub at : ℕ
  pub len : ℕ

-- the name in a slot waits
abbrev pub waits : Slot → Bool
waits slot = not (slot.len == 0)

-- the item of a slot, and the name that it gives
abbrev pub half_in : List ℕ → Slot → Half
half_in names slot = record { is_first = slot.is_first; name = take slot.len (drop slot.at names) }

-- what waits in slots, in their order
abbrev pub listed : List ℕ → List Slot → List (Claim × Half)
listed names [] = []
listed names (slot ∷ slots) = cond (waits slot) ((slot.claim, half_in names slot) ∷ listed names slots) (listed names slots)

-- each claim is below those after it
abbrev pub Ascends : List Slot → Type 0
Ascends slots = AllPairs (λ a b. claim_cmp a.claim b.claim ≡ Less) slots

-- the slot at a place has a claim
pub record HasClaim (slots : List Slot) (claim : Claim) (i : ℕ) : Type 0 where
  pub in_range : i < length slots
  pub is : HoldsAt (λ slot. claim_cmp slot.claim claim ≡ Equal) slots i

-- no slot has a claim
abbrev pub HasNone : List Slot → Claim → Type 0
HasNone slots claim = All (λ slot. is_at (claim_cmp claim) slot.claim ≡ false) slots

-- a claim is above those of all slots
abbrev pub AllBelow : List Slot → Claim → Type 0
AllBelow slots claim = All (λ slot. claim_cmp slot.claim claim ≡ Less) slots

-- the name of a slot lies among the bytes
abbrev pub IsInside : List ℕ → Slot → Type 0
IsInside names slot = slot.at + slot.len ≤ length names

-- the claims ascend, each name lies among the bytes, and there are so few that each place is below 2 ^ 32
pub record IsLaid (names : List ℕ) (slots : List Slot) : Type 0 where
  pub ascends : Ascends slots
  pub inside : All (IsInside names) slots
  pub short : length names ≤ 255 * length slots
  pub few : length slots ≤ 16777216

-- a name of so many bytes waits behind all others
pub record IsNext (slots : List Slot) (claim : Claim) (len : ℕ) : Type 0 where
  pub above : AllBelow slots claim
  pub few : length slots < 16777216
  pub some : 0 < len
  pub short : len ≤ 255
