-- Where the elements of a row lie, and the blocks in them.
use Rattle.std.proofs.Common.{◌≡◌, ℕ, ◌+◌, ◌-◌, ◌*◌, ◌%◌, ◌^◌, ◌<◌, ◌≤◌, Bool, true, false, cond, List, [], length, slice_range, slice_get, Option, Some, None}
use Rattle.std.proofs.Common.{IsSome, IsSomeAnd, leb, refl, sym, ap, ◌∙◌, subst, inl, inr, arith}
use Rattle.btr_scrub_row.proofs.Common.{CanWrite, CanWriteIn, FullStripe, HasPart, IsChunk, IsOfRow, IsOn, IsStripeOf, Layout, Part, Profile, Raid6, Range, Row}
use Rattle.btr_scrub_row.proofs.Common.{Seen, Target, data_count, element, false≢true, option_map_or, range-range, range_in, range_in_element, range_of}
use Rattle.btr_scrub_row.proofs.Common.{same_Some, size_of, without_copies}
use Rattle.std.proofs.lemmas.Bool.{leb-true, le-leb}
use Rattle.btr_chunk.specs.Chunk.{mirror_count}
use Rattle.btr_chunk.specs.Mapping.{IsPosition, place_at, place_on, stripe_of}
use Rattle.btr_chunk.specs.declared.place.Part.TheVariants as part
use Rattle.btr_chunk.specs.declared.position.Elements.{Elements}
use Rattle.btr_chunk.specs.declared.profile.Profile.TheVariants.{Raid5}
use Rattle.btr_chunk.proofs.Bytes.{placed_part}
use Rattle.btr_chunk.proofs.Rule.{data_count-some, facts, stripe-fits}
use Rattle.btr_rack.specs.Rack.{Slot, bytes_of, image_of, len_of}
use Rattle.btr_read.specs.Candidates.{range_on}
use Rattle.btr_read.specs.Candidates as candidates
use Rattle.btr_read.specs.Cause.{LiesIn}
use Rattle.btr_read.specs.Layout.{AreOpen, device_in}
use Rattle.btr_read.specs.declared.device.Device.{Device}
use Rattle.btr_scrub_row.specs.Mending.{IsFullStripe}

-- a range that stands on a device
pub record StandsOn (off len : ℕ) (o : Option Device) : Type 0 where
  pub device : Device
  pub there : o ≡ Some device
  pub within : off + len ≤ device.len

-- a range that is there stands on a device
pub stands_on : (off len : ℕ) (o : Option Device) → IsSome (range_on off len o) → StandsOn off len o
stands_on off len None h = absurd (false≢true h)
stands_on off len (Some device) h = by (leb (off + len) device.len) refl h
  where
    by : (b : Bool) → leb (off + len) device.len ≡ b → IsSome (cond b (Some (range_in device.slot off len)) None) → StandsOn off len (Some device)
    by true e h = record { device = device; there = refl; within = leb-true (off + len) device.len e }
    by false e h = absurd (false≢true h)

-- a range that ends on a device is there
pub range_stands : (off len : ℕ) (o : Option Device) (device : Device) → o ≡ Some device → off + len ≤ device.len → range_on off len o
    ≡ Some (range_in device.slot off len)
range_stands off len o device e le =
    ap (range_on off len) e ∙ ap (λ b. cond b (Some (range_in device.slot off len)) None) (le-leb (off + len) device.len le)

-- the stripe of a part hangs on the row alone
pub stripe-row : (p : Profile) (n : ℕ) (q : Part) (at bt : Elements) → mirror_count p n ≡ None → at.row ≡ bt.row → stripe_of p n q at ≡ stripe_of p n q bt
stripe-row p n q at bt none e = elim (without_copies p n none) [
  | inl five ↦ subst (λ p. stripe_of p n q at ≡ stripe_of p n q bt) (sym five) (with_five q)
  | inr six ↦ subst (λ p. stripe_of p n q at ≡ stripe_of p n q bt) (sym six) (with_six q)
]
  where
    with_five : (q : Part) → stripe_of Raid5 n q at ≡ stripe_of Raid5 n q bt
    with_five (part.Slice i) = ap (λ r. (r + i) % n) e
    with_five part.P = ap (λ r. (r + (n - 1)) % n) e
    with_five q = refl

    with_six : (q : Part) → stripe_of Raid6 n q at ≡ stripe_of Raid6 n q bt
    with_six (part.Mirror i) = refl
    with_six (part.Slice i) = ap (λ r. (r + i) % n) e
    with_six part.P = ap (λ r. (r + (n - 2)) % n) e
    with_six part.Q = ap (λ r. (r + (n - 2) + 1) % n) e

-- an element of a row, in a chunk with parity that keeps the rule
pub record IsElement (layout : Layout) (row : Row) (q : Part) : Type 0 where
  pub start : ℕ
  pub number : ℕ
  pub is : IsFullStripe layout start number row
  pub keeps_rule : IsChunk row.chunk
  pub has : HasPart row.chunk.profile (length row.chunk.stripes) q

-- each part of a full stripe has one
pub its_element : {layout : Layout} {stripe : FullStripe} {row : Row} → IsStripeOf layout stripe row → (q : Part)
    → HasPart row.chunk.profile (length row.chunk.stripes) q → IsElement layout row q
its_element {stripe = stripe} of q has = record { start = stripe.chunk; number = stripe.number; is = of.is; keeps_rule = of.keeps_rule; has = has }

-- where an element lies: each of its bytes from a place on, on a device that is given
pub record Lies (layout : Layout) (row : Row) (q : Part) : Type 0 where
  pub slot : ℕ
  pub off : ℕ
  pub devid : ℕ
  pub device : Device
  pub there : device_in layout.devices devid ≡ Some device
  pub slot_is : device.slot ≡ slot
  pub within : off + 65536 ≤ device.len
  pub small : off + 65536 < 2 ^ 64
  pub at : (at : Elements) → at.row ≡ row.number → IsPosition row.chunk at → place_at row.chunk q at ≡ record { devid = devid; offset = off + at.rest }

-- the place of an element, as it is computed
pub record IsAt (layout : Layout) (row : Row) (q : Part) (l : Lies layout row q) (place : Range) : Type 0 where
  pub slot : place.slot ≡ l.slot
  pub off : place.off ≡ l.off
  pub len : place.len ≡ 65536

module _ {layout : Layout} {row : Row} {q : Part} (g : IsElement layout row q) where
  -- the first byte of the row
  abbrev first : Elements
  first = record { row = row.number; index = 0; rest = 0 }

  some_slices : 0 < data_count row.chunk.profile (length row.chunk.stripes)
  some_slices = data_count-some row.chunk.profile (length row.chunk.stripes) (facts row.chunk g.keeps_rule).count

  -- the element lies on a device that is given, and all its bytes do
  pub lies : Lies layout row q
  lies =
      let position : IsPosition row.chunk first = record { index = some_slices; inside = omega (arith, g.is.inside, g.is.number_is) } in
      let one = placed_part row.chunk q first g.keeps_rule g.has position in
      let at0 : place_at row.chunk q first ≡ record { devid = one.stripe.devid; offset = one.stripe.offset + row.number * 65536 } =
      one.place ∙ ap (λ o. record { devid = one.stripe.devid; offset = o }) (omega arith) in
      let s = stands_on (one.stripe.offset + row.number * 65536) 65536 (device_in layout.devices one.stripe.devid)
      (subst IsSome (ap (λ place. range_on place.offset 65536 (device_in layout.devices place.devid)) at0) (g.is.stand q g.has)) in
      record {
        slot = s.device.slot;
        off = one.stripe.offset + row.number * 65536;
        devid = one.stripe.devid;
        device = s.device;
        there = s.there;
        slot_is = refl;
        within = s.within;
        small = omega (
          arith,
          stripe-fits row.chunk (stripe_of row.chunk.profile (length row.chunk.stripes) q first) one.stripe g.keeps_rule
              one.there,
          g.is.inside,
          g.is.number_is,
        );
        at = λ at e position.
            let two = placed_part row.chunk q at g.keeps_rule g.has position in
            let same : Some two.stripe ≡ Some one.stripe =
            sym two.there ∙ ap (slice_get row.chunk.stripes) (stripe-row row.chunk.profile (length row.chunk.stripes) q at first g.is.parity e)
            ∙ one.there in
            let stripe : two.stripe ≡ one.stripe = same_Some two.stripe one.stripe same in
            two.place ∙ ap (λ s. place_on s at) stripe ∙ ap (λ n. record { devid = one.stripe.devid; offset = one.stripe.offset + n * 65536 + at.rest }) e;
      }

  module _ (l : Lies layout row q) where
    -- some bytes of it
    pub lies_at : (rest len : ℕ) → rest < 65536 → rest + len ≤ 65536 → range_in_element layout row q rest len
        ≡ Some (range_in l.slot (l.off + rest) len)
    lies_at rest len lt le =
        let position : IsPosition row.chunk (record { row = row.number; index = 0; rest = rest }) =
        record { index = some_slices; inside = omega (arith, g.is.inside, g.is.number_is, lt) } in
        rw (l.at (record { row = row.number; index = 0; rest = rest }) refl position, ← l.slot_is)
        (range_stands (l.off + rest) len (device_in layout.devices l.devid) l.device l.there (omega (arith, l.within, le)))

    -- a block in it
    pub block_lies : (t : Target) → IsOn row t → t.devices ≡ layout.devices → IsPosition t.chunk t.at → t.at.rest
        + size_of t ≤ 65536 → range_of t q ≡ Some (range_in l.slot (l.off + t.at.rest) (size_of t))
    block_lies t on devices position le =
        rw (on.chunk, l.at t.at on.number (subst (λ c. IsPosition c t.at) on.chunk position), devices, ← l.slot_is)
        (range_stands (l.off + t.at.rest) (size_of t) (device_in layout.devices l.devid) l.device l.there (omega (arith, l.within, le)))

    -- the whole element lies there
    whole : range_in_element layout row q 0 65536 ≡ Some (range_in l.slot l.off 65536)
    whole = lies_at 0 65536 (omega arith) (omega arith) ∙ ap (λ o. Some (range_in l.slot o 65536)) (omega arith)

    -- it is there, in an image that is open
    pub open_at : (slots : List Slot) → AreOpen slots layout.devices → (l.slot < length slots) × (l.off + 65536 ≤ len_of slots l.slot)
    open_at slots are =
        let open' = are l.devid l.device l.there in
        (omega (arith, open'.slot, l.slot_is), omega (arith, l.within, open'.len, ap (len_of slots) l.slot_is))

    -- the place that was computed for the element is where it lies
    pub is_at : (place : Range) → range_in_element layout row q 0 65536 ≡ Some place → IsAt layout row q l place
    is_at place e =
        let same : place ≡ range_in l.slot l.off 65536 = same_Some place (range_in l.slot l.off 65536) (sym e ∙ whole) in
        record { slot = ap (λ (r : Range). r.slot) same; off = ap (λ (r : Range). r.off) same; len = ap (λ (r : Range). r.len) same }

    -- a range of it
    pub is_of_row : (rest len : ℕ) → rest + len ≤ 65536 → IsOfRow layout row (range_in l.slot (l.off + rest) len)
    is_of_row rest len le = record {
      part = q;
      has = g.has;
      lies = subst (λ o. IsSomeAnd o (LiesIn (range_in l.slot (l.off + rest) len))) (sym (whole))
          (record { slot = refl; from = omega arith; to = omega (arith, le) });
    }

    -- what a block's candidates read of it
    pub block_bytes : (images : List (List ℕ)) (t : Target) → IsOn row t → t.devices ≡ layout.devices → IsPosition t.chunk t.at
        → t.at.rest + size_of t ≤ 65536
        → candidates.element images t q ≡ slice_range (element images layout row q) t.at.rest (t.at.rest + size_of t)
    block_bytes images t on devices position le =
        let bytes = λ (o : Option Range). option_map_or (λ range. bytes_of images range.slot range.off range.len) o [] in
        let image = image_of images l.slot in
        ap bytes (block_lies t on devices position le)
        ∙ ap (λ end. slice_range image (l.off + t.at.rest) end) (omega arith)
        ∙ sym (range-range image l.off 65536 t.at.rest (t.at.rest + size_of t) (omega arith) le)
        ∙ ap (λ o. slice_range (bytes o) t.at.rest (t.at.rest + size_of t)) (sym (whole))

    module _ (place : Range) (is : range_in_element layout row q 0 65536 ≡ Some place) (rest len : ℕ) (le : rest + len ≤ 65536) where
      -- bytes can be written in it
      pub can_write_in : {rack : Seen} {marks : List Bool} → CanWrite layout rack marks → CanWriteIn place rest len rack marks
      can_write_in {rack = rack} can =
          let a = is_at place is in
          let there = open_at rack.slots can.are_open in
          record {
            is_open = omega (arith, a.slot, there.0);
            writable = can.writable;
            slots = can.slots;
            within = omega (arith, ap (len_of rack.slots) a.slot, a.off, there.1, le);
            small = omega (arith, a.off, l.small, le);
          }

      -- and they lie in the row
      pub lies_in_row : IsOfRow layout row (range_in place.slot (place.off + rest) len)
      lies_in_row =
          let a = is_at place is in
          subst (λ s. IsOfRow layout row (range_in s (place.off + rest) len)) (sym a.slot)
          (subst (λ o. IsOfRow layout row (range_in l.slot (o + rest) len)) (sym a.off) (is_of_row rest len le))
