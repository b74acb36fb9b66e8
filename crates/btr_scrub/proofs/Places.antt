-- Each byte of a device is of one stripe, and of one element, at most.
use Rattle.std.proofs.Common.{◌≡◌, ℕ, ◌+◌, ◌*◌, ◌<◌, ◌≤◌, true, ◌&&◌, eqb, leb, ltb, length, Option, Some, None, IsSome, IsSomeAnd, slice_get, refl, sym, ap}
use Rattle.std.proofs.Common.{IfSome, is_some, cond, false, Bool, ◌∙◌, subst, arith}
use Rattle.btr_scrub.proofs.Common.{Chunk, Device, Elements, HasPart, IsChunk, IsOfElement, IsPosition, IsTable, Layout, LiesInChunk, Part, Range, Row, Stripe}
use Rattle.btr_scrub.proofs.Common.{StripePlace, and_from, and_parts, covers, device_in, eq-eqb, eqb-true, facts, le-leb, leb-true, lt-ltb, placed_part}
use Rattle.btr_scrub.proofs.Common.{range_in, range_in_element, range_on, range_stands, same_Some, slice_get_within, stands_on, stripe_length, stripe_of}
use Rattle.std.proofs.lemmas.Bool.{ltb-true}
use Rattle.btr_chunk.proofs.Rows.{stripe_of-same}
use Rattle.btr_chunk.specs.Apart.{LiesIn}
use Rattle.btr_chunk.proofs.Apart.{stripes_apart}
use Rattle.btr_scrub.specs.Places.{ElementsApart}
use Rattle.btr_read.specs.Cause.{LiesIn as LiesWithin}
use Rattle.btr_scrub.proofs.Elements.{begins_at, start_of}
use Rattle.btr_scrub.proofs.Lists.{any_at}

-- the byte's place on its device, and in its element
pub record IsAt (layout : Layout) (row : Row) (part : Part) (slot off : ℕ) (number : ℕ) : Type 0 where
  pub device : Device
  pub stripe : Stripe
  pub stripe_there : slice_get row.chunk.stripes (stripe_of row.chunk.profile (length row.chunk.stripes) part
      (record { row = row.number; index = 0; rest = 0 })) ≡ Some stripe
  pub given : device_in layout.devices stripe.devid ≡ Some device
  pub same_slot : device.slot ≡ slot
  pub from : stripe.offset + row.number * 65536 ≤ off
  pub to : off < stripe.offset + row.number * 65536 + 65536
  pub lies : LiesIn layout.chunks (record { devid = stripe.devid; offset = off }) number
      (stripe_of row.chunk.profile (length row.chunk.stripes) part (record { row = row.number; index = 0; rest = 0 }))

-- a byte that a range covers lies in it
pub covering : (slot off : ℕ) (range : Range) → covers slot off range ≡ true → (range.slot ≡ slot) × (range.off ≤ off) × (off < range.off + range.len)
covering slot off range e =
    let a = and_parts (eqb range.slot slot && leb range.off off) (ltb off (range.off + range.len)) e in
    let b = and_parts (eqb range.slot slot) (leb range.off off) a.0 in
    (eqb-true range.slot slot b.0, leb-true range.off off b.1, ltb-true off (range.off + range.len) a.1)

-- a byte in a range is covered by it
pub covered : (slot off len i : ℕ) → off ≤ i → i < off + len → covers slot i (range_in slot off len) ≡ true
covered slot off len i le lt =
    and_from (eqb slot slot && leb off i) (ltb i (off + len)) (and_from (eqb slot slot) (leb off i) (eq-eqb slot slot refl) (le-leb off i le))
    (lt-ltb i (off + len) lt)

-- a range that stands: on which device, and where
pub record IsOnDevice (off len : ℕ) (o : Option Device) (range : Range) : Type 0 where
  pub device : Device
  pub there : o ≡ Some device
  pub within : off + len ≤ device.len
  pub is : range ≡ range_in device.slot off len
  pub slot : range.slot ≡ device.slot
  pub begin : range.off ≡ off
  pub long : range.len ≡ len

-- a range that stands is such a one
pub on_device : (off len : ℕ) (o : Option Device) (range : Range) → range_on off len o ≡ Some range → IsOnDevice off len o range
on_device off len o range e =
    let s = stands_on off len o (ap is_some e) in
    let is = same_Some range (range_in s.device.slot off len) (sym e ∙ range_stands off len o s.device s.there s.within) in
    record {
      device = s.device;
      there = s.there;
      within = s.within;
      is = is;
      slot = ap (λ (r : Range). r.slot) is;
      begin = ap (λ (r : Range). r.off) is;
      long = ap (λ (r : Range). r.len) is;
    }

-- a range within a stripe of a chunk lies in it
pub in_stripe_of : (layout : Layout) (chunk : Chunk) (k : ℕ) (stripe : Stripe) (device : Device) (inner : Range) → slice_get chunk.stripes k ≡ Some stripe
    → device_in layout.devices stripe.devid ≡ Some device → inner.slot ≡ device.slot → stripe.offset ≤ inner.off
    → inner.off + inner.len ≤ stripe.offset + stripe_length chunk → LiesInChunk layout chunk inner
in_stripe_of layout chunk k stripe device inner there given slot from to =
    any_at (λ (stripe : Stripe). IfSome (range_on stripe.offset (stripe_length chunk) (device_in layout.devices stripe.devid)) (LiesWithin inner))
    chunk.stripes k stripe (slice_get_within chunk.stripes k stripe there) there
    (subst (λ o. IfSome (range_on stripe.offset (stripe_length chunk) o) (LiesWithin inner)) (sym given)
    (by (leb (stripe.offset + stripe_length chunk) device.len)))
  where
    by : (b : Bool) → IfSome (cond b (Some (range_in device.slot stripe.offset (stripe_length chunk))) None) (LiesWithin inner)
    by true = record { slot = slot; from = from; to = to }
    by false = tt

-- a range of which something holds is there
is_some_of : (o : Option Range) (P : Range → Type 0) → IsSomeAnd o P → IsSome o
is_some_of None P h = absurd h
is_some_of (Some r) P h = refl

-- a byte of an element lies in a stripe of its chunk
pub is_at : (layout : Layout) (row : Row) (part : Part) (slot off : ℕ) → IsTable layout.chunks → (e : IsOfElement layout row part slot off)
    → IsAt layout row part slot off e.number
is_at layout row part slot off table e =
    let at0 : Elements = record { row = row.number; index = 0; rest = 0 } in
    let chunk : IsChunk row.chunk = (table.sound e.number row.chunk e.there).0 in
    let position : IsPosition row.chunk at0 = record { index = e.position.index; inside = omega (arith, e.position.inside) } in
    let p = placed_part row.chunk part at0 chunk e.has position in
    let place = start_of row part in
    let b = begins_at layout row part (is_some_of (range_in_element layout row part 0 65536) (λ range. covers slot off range ≡ true) e.covers) in
    let c = covering slot off (range_in b.device.slot place.offset 65536) (rw b.whole at e.covers) in
    let offset : place.offset ≡ p.stripe.offset + row.number * 65536 + 0 = ap (λ (q : StripePlace). q.offset) p.place in
    let devid : place.devid ≡ p.stripe.devid = ap (λ (q : StripePlace). q.devid) p.place in
    let from : p.stripe.offset + row.number * 65536 ≤ off = omega (arith, offset, c.1) in
    let to : off < p.stripe.offset + row.number * 65536 + 65536 = omega (arith, offset, c.2) in
    record {
      device = b.device;
      stripe = p.stripe;
      stripe_there = p.there;
      given = ap (device_in layout.devices) (sym devid) ∙ b.given;
      same_slot = c.0;
      from = from;
      to = to;
      lies = record {
        chunk = row.chunk;
        there = e.there;
        stripe = p.stripe;
        stripe_there = p.there;
        inside = record { device = refl; begin = omega (arith, from); end = omega (arith, to, e.position.inside) };
      };
    }

-- a byte is of an element of one row at most, and of one part there
pub elements_apart : ElementsApart
elements_apart layout one other part also slot off table own e f =
    let a = is_at layout one part slot off table e in
    let b = is_at layout other also slot off table f in
    let devid : a.stripe.devid ≡ b.stripe.devid = own a.stripe.devid b.stripe.devid a.device b.device a.given b.given (a.same_slot ∙ sym b.same_slot) in
    let both = stripes_apart layout.chunks (record { devid = a.stripe.devid; offset = off }) e.number f.number
    (stripe_of one.chunk.profile (length one.chunk.stripes) part (record { row = one.number; index = 0; rest = 0 }))
    (stripe_of other.chunk.profile (length other.chunk.stripes) also (record { row = other.number; index = 0; rest = 0 })) table a.lies
    (subst (λ d. LiesIn layout.chunks (record { devid = d; offset = off }) f.number
    (stripe_of other.chunk.profile (length other.chunk.stripes) also (record { row = other.number; index = 0; rest = 0 }))) (sym devid) b.lies) in
    let chunk : one.chunk ≡ other.chunk = same_Some one.chunk other.chunk (sym e.there ∙ ap (slice_get layout.chunks) both.0 ∙ f.there) in
    let stripe : a.stripe ≡ b.stripe =
    same_Some a.stripe b.stripe (sym a.stripe_there ∙ ap (slice_get one.chunk.stripes) both.1
    ∙ ap (λ c. slice_get c.stripes (stripe_of other.chunk.profile (length other.chunk.stripes) also
    (record { row = other.number; index = 0; rest = 0 }))) chunk ∙ b.stripe_there) in
    let offset : a.stripe.offset ≡ b.stripe.offset = ap (λ (s : Stripe). s.offset) stripe in
    let number : one.number ≡ other.number = omega (arith, offset, a.from, a.to, b.from, b.to) in
    let on_one : stripe_of one.chunk.profile (length one.chunk.stripes) part (record { row = one.number; index = 0; rest = 0 })
    ≡ stripe_of one.chunk.profile (length one.chunk.stripes) also (record { row = one.number; index = 0; rest = 0 }) =
    both.1 ∙ ap (λ c. stripe_of c.profile (length c.stripes) also (record { row = other.number; index = 0; rest = 0 })) (sym chunk)
    ∙ ap (λ n. stripe_of one.chunk.profile (length one.chunk.stripes) also (record { row = n; index = 0; rest = 0 })) (sym number) in (
      chunk,
      number,
      stripe_of-same one.chunk.profile (length one.chunk.stripes) part also (record { row = one.number; index = 0; rest = 0 }) e.parity
          (facts one.chunk (table.sound e.number one.chunk e.there).0).count e.has
          (subst (λ c. HasPart c.profile (length c.stripes) also) (sym chunk) f.has) on_one,
    )
