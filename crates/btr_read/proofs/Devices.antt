-- The devices of a store, one added behind others.
use Rattle.std.proofs.Common.{◌≡◌, ◌≢◌, ℕ, ◌⊎◌, Bool, true, false, cond, ◌||◌, List, [], ◌∷◌, ◌++◌, Option, Some, None, nat_eq, refl, sym, ap, ◌∙◌, subst, inl}
use Rattle.std.proofs.Common.{inr}
use Rattle.std.proofs.lemmas.Bool.{eqb-true, false≢true, eq-eqb}
use Rattle.std.specs.List.{list_any}
use Rattle.btr_rack.specs.Rack.{Slot}
use Rattle.btr_read.specs.declared.device.Device.{Device}
use Rattle.btr_read.specs.declared.device.Member.{Member}
use Rattle.btr_read.specs.Layout.{IsOpen, AreOpen, HaveOwnSlots, device_in}

-- no devices
pub open_none : (slots : List Slot) → AreOpen slots []
open_none slots devid device e = cc

-- where there are no devices, no slot is that of two
pub own_none : HaveOwnSlots []
own_none d e a b first second same = cc

-- what follows for a search behind a member follows for the search from that member on
in_either : (b : Bool) (x o p y : Option Device) (P : Type 0) → (o ≡ y → (p ≡ y) ⊎ P) → cond b x o ≡ y → (cond b x p ≡ y) ⊎ P
in_either true x o p y P f e = inl e
in_either false x o p y P f e = f e

-- a device is that of the members, or the one behind them
in_last : (members : List Member) (m : Member) (d : ℕ) (a : Device) → device_in (members ++ m ∷ []) d ≡ Some a → (device_in members d ≡ Some a)
    ⊎ ((m.devid ≡ d) × (m.device ≡ a))
in_last [] m d a e = by (nat_eq m.devid d) refl e
  where
    by : (b : Bool) → nat_eq m.devid d ≡ b → cond b (Some m.device) None ≡ Some a → (None ≡ Some a) ⊎ ((m.devid ≡ d) × (m.device ≡ a))
    by true test e = let same : m.device ≡ a = cc in inr (eqb-true m.devid d test, same)
    by false test e = inl e
in_last (x ∷ members) m d a e = in_either (nat_eq x.devid d) (Some x.device) (device_in (members ++ m ∷ []) d) (device_in members d) (Some a)
    ((m.devid ≡ d) × (m.device ≡ a)) (in_last members m d a) e

-- devices stay open with one more that is open
pub open_more : (slots : List Slot) (members : List Member) (m : Member) → AreOpen slots members → IsOpen slots m.device → AreOpen slots (members ++ m ∷ [])
open_more slots members m are one devid device e = elim (in_last members m devid device e) [
  | inl h ↦ are devid device h
  | inr h ↦ subst (IsOpen slots) h.1 one
]

-- one more device, in a slot of its own
pub own_more : (members : List Member) (m : Member) → HaveOwnSlots members
    → ((d : ℕ) (a : Device) → device_in members d ≡ Some a → a.slot ≢ m.device.slot) → HaveOwnSlots (members ++ m ∷ [])
own_more members m own new d e a b first second same = elim (in_last members m d a first) [
  | inl h ↦ elim (in_last members m e b second) [
    | inl g ↦ own d e a b h g same
    | inr g ↦ absurd (new d a h (same ∙ ap (λ (x : Device). x.slot) (sym g.1)))
  ]
  | inr h ↦ elim (in_last members m e b second) [
    | inl g ↦ absurd (new e b g (sym same ∙ ap (λ (x : Device). x.slot) (sym h.1)))
    | inr g ↦ sym h.0 ∙ g.0
  ]
]

both_false : (p q : Bool) → (p || q) ≡ false → (p ≡ false) × (q ≡ false)
both_false true q h = absurd (false≢true (sym h))
both_false false q h = (refl, h)

module _ (slot : ℕ) where
  -- a device lies in the slot
  abbrev pub lies_there : Member → Bool
  lies_there m = nat_eq m.device.slot slot

  -- where no member lies in the slot, no device of theirs has it
  pub lacks_slot : (members : List Member) → list_any lies_there members ≡ false → (d : ℕ) (a : Device) → device_in members d ≡ Some a → a.slot ≢ slot
  lacks_slot [] none d a e = cc
  lacks_slot (x ∷ members) none d a e =
      let both = both_false (lies_there x) (list_any lies_there members) none in
      by (lacks_slot members both.1 d a) both.0 (nat_eq x.devid d) e
    where
      by : (device_in members d ≡ Some a → a.slot ≢ slot) → lies_there x ≡ false → (b : Bool) → cond b (Some x.device) (device_in members d) ≡ Some a
          → a.slot ≢ slot
      by rest none true e same =
          let is : x.device ≡ a = cc in
          let there : x.device.slot ≡ slot = ap (λ (y : Device). y.slot) is ∙ same in
          false≢true (sym none ∙ eq-eqb x.device.slot slot there)
      by rest none false e same = rest e same

-- a device in a slot of its own, before others
pub own_first : (x : Member) (members : List Member) → HaveOwnSlots members
    → ((d : ℕ) (a : Device) → device_in members d ≡ Some a → a.slot ≢ x.device.slot) → HaveOwnSlots (x ∷ members)
own_first x members own new d e a b first second same = by (nat_eq x.devid d) (nat_eq x.devid e) refl refl first second
  where
    by : (p q : Bool) → nat_eq x.devid d ≡ p → nat_eq x.devid e ≡ q → cond p (Some x.device) (device_in members d) ≡ Some a
        → cond q (Some x.device) (device_in members e) ≡ Some b → d ≡ e
    by true true p q first second = sym (eqb-true x.devid d p) ∙ eqb-true x.devid e q
    by true false p q first second = let is : x.device ≡ a = cc in absurd (new e b second (sym same ∙ ap (λ (y : Device). y.slot) (sym is)))
    by false true p q first second = let is : x.device ≡ b = cc in absurd (new d a first (same ∙ ap (λ (y : Device). y.slot) (sym is)))
    by false false p q first second = own d e a b first second same
