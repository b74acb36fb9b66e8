-- The devices of the images, slot by slot.
use Rattle.std.proofs.Common.{◌≡◌, ℕ, ◌+◌, ◌<◌, Bool, true, false, List, [], ◌∷◌, ◌++◌, length, map, take, drop, get_or, Option, Some, None, refl, sym, ap, ◌∙◌}
use Rattle.std.proofs.Common.{subst, arith, add-one, if◌then◌else◌, ◌==◌, ◌||◌}
use Rattle.std.proofs.Math.Seq.{drop-cons}
use Rattle.std.proofs.lemmas.List.{take_more, get_or-map, length-map, length-take-le}
use Rattle.btr_rack.specs.Rack.{Slot, len_of, no_slot}
use Rattle.btr_read.specs.Layout.{Layout, AreOpen, HaveOwnSlots}
use Rattle.std.specs.Option.{IsNone}
use Rattle.btr_read.specs.declared.device.Device.{Device}
use Rattle.btr_read.specs.declared.device.Member.{Member}
use Rattle.btr_read.specs.Layout.{device_in}
use Rattle.btr_super.specs.declared.superblock.Super.{Super}
use Rattle.btr_volume.specs.Start.{has_device, twin_from, member, devices_from}

-- one more device
pub devices_more : (g slot : ℕ) (xs : List Super) (s : Super) (lens : List ℕ) (len d : ℕ) → length xs < length lens → get_or lens (length xs) d ≡ len
    → devices_from g slot (xs ++ s ∷ []) lens ≡ devices_from g slot xs lens ++ member g (slot + length xs) s len ∷ []
devices_more g slot [] s [] len d lt is = absurd (omega (arith, lt))
devices_more g slot [] s (l ∷ lens) len d lt is = ap (λ (x : ℕ). member g slot s x ∷ []) is ∙ ap (λ (n : ℕ). member g n s len ∷ []) (omega arith)
devices_more g slot (x ∷ xs) s [] len d lt is = absurd (omega (arith, lt))
devices_more g slot (x ∷ xs) s (l ∷ lens) len d lt is =
    ap (λ (ms : List Member). member g slot x l ∷ ms) (devices_more g (slot + 1) xs s lens len d (omega (arith, lt)) is)
    ∙ ap (λ (n : ℕ). member g slot x l ∷ (devices_from g (slot + 1) xs lens ++ member g n s len ∷ [])) (omega arith)

if_false : {A : Type 0} (b : Bool) (x y : A) → b ≡ false → (if b then x else y) ≡ y
if_false true x y e = absurd (cc e)
if_false false x y e = refl

neither : (b c : Bool) → (b || c) ≡ false → (b ≡ false) × (c ≡ false)
neither true c e = absurd (cc e)
neither false c e = (refl, e)

-- a device that no superblock has isn't among them
pub not_among : (g slot devid : ℕ) (xs : List Super) (lens : List ℕ) → has_device xs devid ≡ false → device_in (devices_from g slot xs lens) devid ≡ None
not_among g slot devid [] lens none = refl
not_among g slot devid (x ∷ xs) [] none = refl
not_among g slot devid (x ∷ xs) (l ∷ lens) none =
    let no = neither (x.devid == devid) (has_device xs devid) none in
    if_false (x.devid == devid) (Some (member g slot x l).device) (device_in (devices_from g (slot + 1) xs lens) devid) no.0
    ∙ not_among g (slot + 1) devid xs lens no.1

-- a search that finds nothing finds nothing at its first slot, and nothing behind it
not_some : (b : Bool) (slot : ℕ) (o : Option ℕ) → (if b then Some slot else o) ≡ None → (b ≡ false) × (o ≡ None)
not_some true slot o e = absurd (cc e)
not_some false slot o e = (refl, e)

module _ (supers : List Super) (slot : ℕ) (d : Super) (lt : slot < length supers) where
  -- the superblock of the slot
  abbrev this : Super
  this = get_or supers slot d

  -- the superblocks up to the slot and with it are those before it, and its own
  one_taken : take (slot + 1) supers ≡ take slot supers ++ this ∷ []
  one_taken = take_more supers slot d lt

  -- no device before a slot's is the same, and so on
  pub own_next : twin_from slot (take slot supers) (drop slot supers) ≡ None → (has_device (take slot supers) this.devid ≡ false)
      × (twin_from (slot + 1) (take (slot + 1) supers) (drop (slot + 1) supers) ≡ None)
  own_next none =
      let from : drop slot supers ≡ this ∷ drop (slot + 1) supers = drop-cons supers slot d lt ∙ ap (λ k. this ∷ drop k supers) (sym (add-one slot)) in
      let both = not_some (has_device (take slot supers) this.devid) slot (twin_from (slot + 1) (take slot supers ++ this ∷ []) (drop (slot + 1) supers))
      (sym (ap (twin_from slot (take slot supers)) from) ∙ none) in
      (both.0, ap (λ xs. twin_from (slot + 1) xs (drop (slot + 1) supers)) one_taken ∙ both.1)

  module _ (g : ℕ) (slots : List Slot) (within : slot < length slots) where
    -- the lengths of the slots' images
    abbrev lens : List ℕ
    lens = map (λ slot. slot.len) slots

    -- the device of a slot's superblock isn't there yet
    pub device_new : (layout layout' : Layout) → layout' ≡ record layout { devices = devices_from g 0 (take slot supers) lens }
        → has_device (take slot supers) this.devid ≡ false → device_in layout'.devices this.devid ≡ None
    device_new layout layout' is none = ap (λ (l : Layout). device_in l.devices this.devid) is ∙ not_among g 0 this.devid (take slot supers) lens none

    -- the devices up to and with a slot's
    pub layout_next : (layout layout' : Layout) → layout' ≡ record layout { devices = devices_from g 0 (take slot supers) lens }
        → record layout' { devices = layout'.devices ++ member g slot this (len_of slots slot) ∷ [] }
        ≡ record layout { devices = devices_from g 0 (take (slot + 1) supers) lens }
    layout_next layout layout' is =
        let long : length (take slot supers) ≡ slot = length-take-le slot supers (omega (arith, lt)) in
        let len : get_or lens (length (take slot supers)) 0 ≡ len_of slots slot =
        ap (λ (k : ℕ). get_or lens k 0) long ∙ get_or-map (λ (x : Slot). x.len) slots slot no_slot 0 within in
        let devices : devices_from g 0 (take slot supers ++ this ∷ []) lens
        ≡ devices_from g 0 (take slot supers) lens ++ member g slot this (len_of slots slot) ∷ [] =
        devices_more g 0 (take slot supers) this lens (len_of slots slot) 0 (omega (arith, long, within, length-map slots (λ (x : Slot). x.len))) len
        ∙ ap (λ (n : ℕ). devices_from g 0 (take slot supers) lens ++ member g n this (len_of slots slot) ∷ []) (omega (arith, long)) in
        ap {A = Layout} (λ l. record l { devices = l.devices ++ member g slot this (len_of slots slot) ∷ [] }) is
        ∙ ap {A = List Member} (λ ds. record layout { devices = ds }) (sym devices ∙ ap (λ (xs : List Super). devices_from g 0 xs lens) (sym one_taken))

-- what stands past the last superblock
abbrev pub blank : Super
blank = record {
  fsid = [];
  place = 0;
  flags = 0;
  generation = 0;
  root = 0;
  chunk_root = 0;
  log_root = 0;
  total_bytes = 0;
  bytes_used = 0;
  root_dir = 0;
  num_devices = 0;
  sectorsize = 0;
  nodesize = 0;
  leafsize = 0;
  stripesize = 0;
  sys_chunk_array_size = 0;
  chunk_root_generation = 0;
  compat = 0;
  compat_ro = 0;
  incompat = 0;
  csum_type = 0;
  root_level = 0;
  chunk_root_level = 0;
  log_root_level = 0;
  devid = 0;
  dev_uuid = [];
  label = [];
  cache_generation = 0;
  uuid_tree_generation = 0;
  metadata_uuid = [];
  reserved = [];
  array = [];
  backups = [];
}

-- an option that is nothing has no value
pub none_is : {A : Type 0} (o : Option A) → o ≡ None → IsNone o
none_is o e = subst IsNone (sym e) refl

-- what a push of a device at a slot comes to
pub layout_pushed : (g : ℕ) (supers : List Super) (slot : ℕ) (lt : slot < length supers) (slots : List Slot) (within : slot < length slots)
    (layout layout' : Layout) (len : ℕ) → len ≡ len_of slots slot
    → layout' ≡ record layout { devices = devices_from g 0 (take slot supers) (map (λ slot. slot.len) slots) }
    → record layout' { devices = layout'.devices ++ member g slot (get_or supers slot blank) len ∷ [] }
    ≡ record layout { devices = devices_from g 0 (take (slot + 1) supers) (map (λ slot. slot.len) slots) }
layout_pushed g supers slot lt slots within layout layout' len len-is is =
    ap {A = Layout} (λ l. l) (ap {A = ℕ} (λ n. record layout' { devices = layout'.devices ++ member g slot (get_or supers slot blank) n ∷ [] }) len-is
    ∙ layout_next supers slot blank lt g slots within layout layout' is)

-- where a device stands: its place among the superblocks is its slot
record At (slot : ℕ) (xs : List Super) (lens : List ℕ) (devid : ℕ) (device : Device) : Type 0 where
  index : ℕ
  within : index < length xs
  long : index < length lens
  slot_is : device.slot ≡ slot + index
  len_is : device.len ≡ get_or lens index 0
  devid_is : (get_or xs index blank).devid ≡ devid

equal : (a b : ℕ) → (a == b) ≡ true → a ≡ b
equal a b e = grind arith

the_device : (a b : Device) → Some a ≡ Some b → a ≡ b
the_device a b e = cc

-- a device of some superblocks stands where one of them does, with this image's length
located : (g slot : ℕ) (xs : List Super) (lens : List ℕ) (devid : ℕ) (device : Device) → device_in (devices_from g slot xs lens) devid ≡ Some device
    → At slot xs lens devid device
located g slot [] lens devid device e = absurd (cc e)
located g slot (x ∷ xs) [] devid device e = absurd (cc e)
located g slot (x ∷ xs) (l ∷ lens) devid device e = by (x.devid == devid) refl e (located g (slot + 1) xs lens devid device)
  where
    by : (b : Bool) → (x.devid == devid) ≡ b → (if b then Some (member g slot x l).device else device_in (devices_from g (slot + 1) xs lens) devid)
        ≡ Some device
        → (device_in (devices_from g (slot + 1) xs lens) devid ≡ Some device → At (slot + 1) xs lens devid device) → At slot (x ∷ xs) (l ∷ lens) devid device
    by true is e on =
        let d : (member g slot x l).device ≡ device = the_device (member g slot x l).device device e in
        record {
          index = 0;
          within = omega arith;
          long = omega arith;
          slot_is = sym (ap (λ (y : Device). y.slot) d) ∙ omega arith;
          len_is = sym (ap (λ (y : Device). y.len) d);
          devid_is = equal x.devid devid is;
        }
    by false is e on =
        let a = on e in
        record {
          index = a.index + 1;
          within = omega (arith, a.within);
          long = omega (arith, a.long);
          slot_is = a.slot_is ∙ omega arith;
          len_is = a.len_is ∙ sym (get_or-cons l lens a.index 0);
          devid_is = ap (λ (y : Super). y.devid) (get_or-cons x xs a.index blank) ∙ a.devid_is;
        }
      where
        get_or-cons : {X : Type 0} (x : X) (xs : List X) (i : ℕ) (d : X) → get_or (x ∷ xs) (i + 1) d ≡ get_or xs i d
        get_or-cons x xs i d = ap (λ n. get_or (x ∷ xs) n d) (add-one i)

module _ (g : ℕ) (supers : List Super) (slots : List Slot) where
  -- the devices of all images
  abbrev given : List Member
  given = devices_from g 0 supers (map (λ slot. slot.len) slots)

  -- the devices of the images are open in their slots
  pub are_open : AreOpen slots given
  are_open devid device e =
      let a = located g 0 supers (map (λ (x : Slot). x.len) slots) devid device e in
      let within : device.slot < length slots = omega (arith, a.long, a.slot_is, length-map slots (λ (x : Slot). x.len)) in
      record {
        slot = within;
        len = sym (a.len_is ∙ ap (λ (i : ℕ). get_or (map (λ (x : Slot). x.len) slots) i 0) (omega (arith, a.slot_is))
            ∙ get_or-map (λ (x : Slot). x.len) slots device.slot no_slot 0 within);
      }

  -- no slot is that of two devices of the images
  pub own_slots : HaveOwnSlots given
  own_slots d e a b at bt same =
      let x = located g 0 supers (map (λ (x : Slot). x.len) slots) d a at in
      let y = located g 0 supers (map (λ (x : Slot). x.len) slots) e b bt in
      sym x.devid_is ∙ ap (λ (i : ℕ). (get_or supers i blank).devid) (omega (arith, x.slot_is, y.slot_is, same)) ∙ y.devid_is
