-- Slots that are written, and ranges that can be read.
use Rattle.std.proofs.Common.{◌≡◌, ℕ, ◌+◌, ◌<◌, ◌≤◌, Bool, true, false, cond, leb, List, [], length, get_or, Option, Some, None, refl, sym, ap, ◌∙◌, subst}
use Rattle.std.proofs.Common.{arith}
use Rattle.std.proofs.lemmas.List.{length-set, get_or-set_other, set-get_or}
use Rattle.std.proofs.lemmas.Bool.Decides.{nat_tests}
use Rattle.btr_pool.specs.Slots.{Slots, IsLive, bytes_at, with_bytes}
use Rattle.btr_rack.specs.Rack.{Slot, len_of, range_in}
use Rattle.btr_rack.specs.declared.place.Place.{Place as Range}
use Rattle.btr_chunk.specs.declared.place.Part.{Part}
use Rattle.btr_chunk.specs.Mapping.{place_at}
use Rattle.btr_read.specs.declared.device.Device.{Device}
use Rattle.btr_read.specs.Layout.{AreOpen, IsOpen, device_in}
use Rattle.btr_read.specs.Candidates.{Target, range_on, range_of, size_of}
use Rattle.btr_read.specs.Writing.{OnlyWrites}

-- a slot that keeps its bytes was written with them
pub with_own_bytes : (pool : Slots) (k : ℕ) → (written : List ℕ) × (pool ≡ with_bytes pool k written)
with_own_bytes pool k = (bytes_at pool k, λ i. record { size = pool.size; lent = pool.lent; bytes = sym (set-get_or pool.bytes k []) i })

-- a pool with other bytes in a slot is one where only this slot was written
pub only_writes : (old new : Slots) (k : ℕ) → (written : List ℕ) × (new ≡ with_bytes old k written) → OnlyWrites k old new
only_writes old new k h = subst (OnlyWrites k old) (sym h.1) (record {
  size = refl;
  lent = refl;
  count = length-set old.bytes k h.0;
  others = λ j ne live. get_or-set_other old.bytes k j h.0 [] ne;
})

-- where nothing changes only this slot was written
pub only_writes_none : (pool : Slots) (k : ℕ) → OnlyWrites k pool pool
only_writes_none pool k = record { size = refl; lent = refl; count = refl; others = λ j ne live. refl }

-- two steps that write only this slot write only it together
pub only_writes_more : (a b c : Slots) (k : ℕ) → OnlyWrites k a b → OnlyWrites k b c → OnlyWrites k a c
only_writes_more a b c k h g = record {
  size = g.size ∙ h.size;
  lent = g.lent ∙ h.lent;
  count = g.count ∙ h.count;
  others = λ j ne live. g.others j ne (ap (λ lent. get_or lent j false) h.lent ∙ live) ∙ h.others j ne live;
}

-- the loan stays live
pub live_written : (old new : Slots) (k j : ℕ) → OnlyWrites k old new → IsLive old j → IsLive new j
live_written old new k j h live = record {
  there = omega (arith, h.count, live.there);
  lent = ap (λ lent. get_or lent j false) h.lent ∙ live.lent;
}

-- what can be read
pub record IsReadable (slots : List Slot) (range : Range) : Type 0 where
  pub slot : range.slot < length slots
  pub within : range.off + range.len ≤ len_of slots range.slot

-- a range that lies in the image of an open device can be read
readable_if : (slots : List Slot) (off len : ℕ) (device : Device) (range : Range) (b : Bool) → leb (off + len) device.len ≡ b → IsOpen slots device
    → cond b (Some (range_in device.slot off len)) None ≡ Some range → IsReadable slots range
readable_if slots off len device range true test is e =
    let same : range_in device.slot off len ≡ range = cc in
    let le : off + len ≤ device.len = grind (arith, nat_tests, test) in
    subst (IsReadable slots) same (record { slot = is.slot; within = omega (arith, le, is.len) })
readable_if slots off len device range false test is e = cc

-- a range on a device that is given and open can be read
readable_on : (slots : List Slot) (off len : ℕ) (o : Option Device) (range : Range) → ((device : Device) → o ≡ Some device → IsOpen slots device)
    → range_on off len o ≡ Some range → IsReadable slots range
readable_on slots off len None range are e = cc
readable_on slots off len (Some device) range are e = readable_if slots off len device range (leb (off + len) device.len) refl (are device refl) e

-- where the devices are open, the range of a part that stands can be read
pub readable : (slots : List Slot) (t : Target) (part : Part) (range : Range) → AreOpen slots t.devices → range_of t part ≡ Some range → IsReadable slots range
readable slots t part range are e =
    let place = place_at t.chunk part t.at in
    readable_on slots place.offset (size_of t) (device_in t.devices place.devid) range (λ device is. are place.devid device is) e
