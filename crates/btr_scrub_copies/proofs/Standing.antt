-- Where a copy lies, and a write over it.
use Rattle.std.proofs.Common.{◌≡◌, ℕ, ◌+◌, ◌<◌, ◌≤◌, Bool, true, false, cond, List, [], ◌∷◌, length, set, Option, Some, None, IsSome, is_some, Result, Ok, leb}
use Rattle.std.proofs.Common.{le-leb, refl, sym, ap, ◌∙◌, subst, arith}
use Rattle.btr_scrub_copies.proofs.Common.{DoesWrites, IsOfCopy, Layout, Mirror, Range, Seen, Target, Want, copy_writes, device_in, option_map, range_of}
use Rattle.btr_scrub_copies.proofs.Common.{sought}
use Rattle.std.proofs.lemmas.Bool.{leb-true}
use Rattle.std.proofs.lemmas.Option.{same_Some}
use Rattle.std.specs.List.{Any, cons_option}
use Rattle.btr_chunk.specs.Mapping.{place_at}
use Rattle.btr_rack.specs.Rack.{Accounts, FailsUnsure, Slot, Unsyncs, Writes, len_of, range_in}
use Rattle.btr_rack.specs.declared.error.RackError.{RackError}
use Rattle.btr_read.specs.Candidates.{range_on, size_of}
use Rattle.btr_read.specs.Cause.{LiesIn}
use Rattle.btr_read.specs.Layout.{AreOpen}
use Rattle.btr_read.specs.Mirror.{HasMirror}
use Rattle.btr_read.specs.Want as want
use Rattle.btr_read.specs.declared.device.Device.{Device}
use Rattle.btr_read.proofs.Fates.{sought_of}
use Rattle.btr_scrub_copies.specs.Mending.{IsCopied, Overwrites}
use Rattle.btr_scrub_copies.proofs.Wrote.{passed_on, wrote}

-- a range that lies on a device
record LiesOn (off len : ℕ) (o : Option Device) (place : Range) : Type 0 where
  device : Device
  there : o ≡ Some device
  is : range_in device.slot off len ≡ place
  within : off + len ≤ device.len

-- a range that is there on a device ends on it
lies_on : (off len : ℕ) (o : Option Device) (place : Range) → range_on off len o ≡ Some place → LiesOn off len o place
lies_on off len None place e = cc
lies_on off len (Some device) place e = by (leb (off + len) device.len) refl e
  where
    by : (b : Bool) → leb (off + len) device.len ≡ b → cond b (Some (range_in device.slot off len)) None ≡ Some place → LiesOn off len (Some device) place
    by true t e = record { device = device; there = refl; is = same_Some (range_in device.slot off len) place e; within = leb-true (off + len) device.len t }
    by false t e = cc

-- where a copy lies
pub record IsPlaced (slots : List Slot) (layout : Layout) (w : Want) (place : Range) : Type 0 where
  pub slot : place.slot < length slots
  pub within : place.off + place.len ≤ len_of slots place.slot
  pub len : place.len ≡ want.len_of layout.setting w

-- a copy of a wanted block lies in an image that is open, and is as long as the block
pub placed : (slots : List Slot) (layout : Layout) (w : Want) (t : Target) (m : ℕ) (place : Range) → AreOpen slots layout.devices → sought layout w
    ≡ Ok t → range_of t (Mirror m) ≡ Some place → IsPlaced slots layout w place
placed slots layout w t m place are e at =
    let is = sought_of layout w t e in
    let p = place_at t.chunk (Mirror m) t.at in
    let on = lies_on p.offset (size_of t) (device_in t.devices p.devid) place at in
    let open' = are p.devid on.device (ap (λ ds. device_in ds p.devid) (sym is.devices_is) ∙ on.there) in
    let slot : on.device.slot ≡ place.slot = ap (λ (r : Range). r.slot) on.is in
    let off : p.offset ≡ place.off = ap (λ (r : Range). r.off) on.is in
    let len : size_of t ≡ place.len = ap (λ (r : Range). r.len) on.is in
    let device : len_of slots place.slot ≡ on.device.len = ap (len_of slots) (sym slot) ∙ open'.len in
    record {
      slot = omega (arith, slot, open'.slot);
      within = omega (arith, off, len, device, on.within);
      len = sym len ∙ ap (λ s. want.len_of s t.want) is.setting_is ∙ ap (want.len_of layout.setting) is.want_is;
    }

-- of a block that has copies
pub placed_copy : {slots : List Slot} {layout : Layout} {w : Want} (m : ℕ) (place : Range) → AreOpen slots layout.devices → IsCopied layout w
    → ((t : Target) → sought layout w ≡ Ok t → range_of t (Mirror m) ≡ Some place) → IsPlaced slots layout w place
placed_copy {slots = slots} {layout = layout} {w = w} m place are c at = placed slots layout w c.target m place are c.is_sought (at c.target c.is_sought)

module _ (t : Target) (m : ℕ) (place : Range) (at : range_of t (Mirror m) ≡ Some place) where
  -- writing bytes over a copy is one write, at its place
  one_write : (bytes : List ℕ) → place.len ≡ length bytes
      → copy_writes t bytes (Mirror m ∷ []) ≡ record { range = range_in place.slot place.off (length bytes); bytes = bytes } ∷ []
  one_write bytes len = ap (λ o. cons_option (option_map (λ (range : Range). record { range = range; bytes = bytes }) o) [])
      (at ∙ ap (λ n. Some (range_in place.slot place.off n)) len)

  -- the place is a range of the copy
  of_copy : HasMirror m t → IsOfCopy t place
  of_copy has = record {
    mirror = m;
    has = has;
    lies = subst (λ o. Any (LiesIn place) (cons_option o [])) (sym at)
        (0, place, omega arith, refl, record { slot = refl; from = omega arith; to = omega arith });
  }

-- the bytes of a loan were written over a copy, or some of them, as the rack said
pub wrote_loan : (layout : Layout) (w : Want) (t : Target) (m : ℕ) (place : Range) (own bytes : List ℕ) (marks : List Bool) (a b : Seen)
    → AreOpen a.slots layout.devices → length a.slots ≤ length marks → sought layout w ≡ Ok t → range_of t (Mirror m) ≡ Some place → HasMirror m t
    → length own ≡ want.len_of layout.setting w → Some own ≡ Some bytes → (r : Result (Unit {0}) RackError)
    → Unsyncs (range_in place.slot place.off (length own)) a b → Writes place.slot place.off own a.held b.held r
    → Accounts (range_in place.slot place.off (length own)) a.account b.account r → FailsUnsure a.sure r
    → Overwrites t bytes (Mirror m ∷ []) marks (set marks place.slot true) a b (passed_on place.slot r)
wrote_loan layout w t m place own bytes marks a b are room e at has long same r unsyncs held account unsure =
    let is = placed a.slots layout w t m place are e at in
    let len = is.len ∙ sym long in
    subst (λ bs. Overwrites t bs (Mirror m ∷ []) marks (set marks place.slot true) a b (passed_on place.slot r)) (same_Some own bytes same)
    (subst (λ ws. DoesWrites (IsOfCopy t) (λ i. ws) marks (set marks place.slot true) a b (passed_on place.slot r)) (sym (one_write t m place at own len))
    (wrote (IsOfCopy t) place.slot place.off own marks a b (subst (λ n. IsOfCopy t (range_in place.slot place.off n)) len (of_copy t m place at has))
    (omega (arith, is.slot, room)) r unsyncs held account unsure))

-- bytes that end on a device stand
pub stands_on : (off len : ℕ) (o : Option Device) (device : Device) → o ≡ Some device → off + len ≤ device.len → IsSome (range_on off len o)
stands_on off len o device e le = ap (λ d. is_some (range_on off len d)) e
    ∙ ap (λ b. is_some (cond b (Some (range_in device.slot off len)) None)) (le-leb (off + len) device.len le)
