-- Where blocks with copies lie.
use Rattle.std.proofs.Common.{◌≡◌, ℕ, suc, ◌+◌, ◌-◌, ◌*◌, ◌/◌, ◌%◌, ◌<◌, ◌≤◌, Bool, true, false, cond, ◌&&◌, leb, ltb, List, [], ◌∷◌, length, slice_get, Option}
use Rattle.std.proofs.Common.{Some, None, IsSomeAnd, Ok, Err, refl, sym, ap, ◌∙◌, subst, arith, inl, inr}
use Rattle.btr_scrub.proofs.Common.{Chunk, Device, Elements, HasPart, HaveOwnSlots, IsChunk, IsPosition, IsSought, IsTable, Layout, LiesInChunk, LiesInStripe}
use Rattle.btr_scrub.proofs.Common.{Mirror, Part, Profile, Raid5, Raid6, Range, Stripe, StripePlace, Target, Want, addr_of, alone, and_from, and_parts}
use Rattle.btr_scrub.proofs.Common.{chunk_at, cons_option, covers, crosses, data_count, device_in, holds, is_striped, le-leb, leb-true, len_of, lt-ltb}
use Rattle.btr_scrub.proofs.Common.{ltb-false, mirror_count, or_parts, place_at, placed_part, position, range_of, same_Some, size_of, slice_get_within, sought}
use Rattle.btr_scrub.proofs.Common.{sought_at, sought_in, stripe_length, stripe_of}
use Rattle.std.proofs.lemmas.Bool.{ltb-true}
use Rattle.std.specs.List.{Any, find}
use Rattle.btr_chunk.specs.Apart.{IsOfCopy}
use Rattle.btr_chunk.specs.Mapping.{data_part, place_on}
use Rattle.btr_chunk.specs.declared.mapping.MapFault.TheVariants as map_fault
use Rattle.btr_chunk.specs.declared.profile.Profile.TheVariants.{Raid0, Raid10}
use Rattle.btr_chunk.proofs.Apart.{copies_apart}
use Rattle.btr_chunk.proofs.Bytes.{IsPosition-position}
use Rattle.btr_chunk.proofs.Rule.{data_count-mirrored, reaches-rows}
use Rattle.btr_read.specs.Cause.{LiesIn}
use Rattle.btr_read.specs.Mirror.{HasMirror}
use Rattle.btr_scrub_copies.specs.Mending.{IsOfCopy as IsOfMirror}
use Rattle.btr_scrub.proofs.Places.{covering, on_device, in_stripe_of}
use Rattle.btr_scrub.proofs.Lists.{any_at, in_any}

-- ---- addresses of a chunk

-- an address that a chunk has lies between its ends
pub bounds_of : (chunk : Chunk) (addr : ℕ) → holds chunk addr ≡ true → (chunk.start ≤ addr) × (addr < chunk.start + chunk.length)
bounds_of chunk addr held =
    let h = and_parts (leb chunk.start addr) (ltb addr (chunk.start + chunk.length)) held in
    (leb-true chunk.start addr h.0, ltb-true addr (chunk.start + chunk.length) h.1)

-- an address between its ends is one that it has
pub held_between : (chunk : Chunk) (addr : ℕ) → chunk.start ≤ addr → addr < chunk.start + chunk.length → holds chunk addr ≡ true
held_between chunk addr from to =
    and_from (leb chunk.start addr) (ltb addr (chunk.start + chunk.length)) (le-leb chunk.start addr from) (lt-ltb addr (chunk.start + chunk.length) to)

-- ---- blocks that cross nothing

-- such a block ends in its chunk
pub ends_within : (chunk : Chunk) (addr len : ℕ) → crosses chunk addr len ≡ false → addr + len ≤ chunk.start + chunk.length
ends_within chunk addr len fine = ltb-false (chunk.start + chunk.length) (addr + len)
    (or_parts (ltb (chunk.start + chunk.length) (addr + len)) (is_striped chunk.profile && ltb 65536 ((addr - chunk.start) % 65536 + len)) fine).0

-- in a chunk with rows it ends in its own element
pub striped_fits : (chunk : Chunk) (addr len : ℕ) → is_striped chunk.profile ≡ true → crosses chunk addr len ≡ false → (addr - chunk.start) % 65536
    + len ≤ 65536
striped_fits chunk addr len striped fine =
    ltb-false 65536 ((addr - chunk.start) % 65536 + len) (or_parts (ltb (chunk.start + chunk.length) (addr + len))
    (ltb 65536 ((addr - chunk.start) % 65536 + len)) (rw striped at fine)).1

-- ---- what is sought

-- the first that passes has a number
pub find_at : {X : Type 0} (p : X → Bool) (xs : List X) (x : X) → find p xs ≡ Some x → (i : ℕ) × (slice_get xs i ≡ Some x) × (p x ≡ true)
find_at p [] x e = cc
find_at p (y ∷ xs) x e = by (p y) refl e (find_at p xs x)
  where
    by : (b : Bool) → p y ≡ b → cond b (Some y) (find p xs) ≡ Some x → (find p xs ≡ Some x → (i : ℕ) × (slice_get xs i ≡ Some x) × (p x ≡ true))
        → (i : ℕ) × (slice_get (y ∷ xs) i ≡ Some x) × (p x ≡ true)
    by true t e rest = let same = same_Some y x e in (0, e, ap p (sym same) ∙ t)
    by false t e rest = let r = rest e in (suc r.0, r.1, r.2)

module _ (layout : Layout) (want : Want) (t : Target) where
  -- what is sought in a chunk that holds its address has the position of its address
  in_chunk : (chunk : Chunk) → (i : ℕ) × (slice_get layout.chunks i ≡ Some chunk) × (holds chunk (addr_of want) ≡ true)
      → sought_in layout want (Some chunk) ≡ Ok t → IsSought layout t
  in_chunk chunk place e = by (holds chunk (addr_of want)) (crosses chunk (addr_of want) (len_of layout.setting want)) refl e
    where
      by : (h c : Bool) → crosses chunk (addr_of want) (len_of layout.setting want) ≡ c
          → sought_at layout want chunk (cond h (cond c (Err map_fault.Crosses) (Ok (position chunk (addr_of want)))) (Err map_fault.Unmapped)) ≡ Ok t
          → IsSought layout t
      by true true fine e = cc
      by true false fine e =
          let same : record { want = want; setting = layout.setting; chunk = chunk; at = position chunk (addr_of want); devices = layout.devices } ≡ t =
          cc in subst (IsSought layout) same (record {
            number = place.0;
            there = place.1;
            held = place.2;
            uncrossed = fine;
            at = refl;
            setting = refl;
            devices = refl;
          })
      by false c fine e = cc

  -- so has what is sought in the chunk that is found, if one is
  in_some : (o : Option Chunk) → chunk_at layout.chunks (addr_of want) ≡ o → sought_in layout want o ≡ Ok t → IsSought layout t
  in_some None at e = cc
  in_some (Some chunk) at e = in_chunk chunk (find_at (λ c. holds c (addr_of want)) layout.chunks chunk at) e

  -- what is sought has the position of its address
  pub is_sought : sought layout want ≡ Ok t → IsSought layout t
  is_sought e = in_some (chunk_at layout.chunks (addr_of want)) refl e

-- what is sought has a position in its chunk
pub position_is : (layout : Layout) (t : Target) → IsTable layout.chunks → IsSought layout t → IsPosition t.chunk t.at
position_is layout t table is = subst (IsPosition t.chunk) (sym is.at) (IsPosition-position t.chunk (addr_of t.want)
    (table.sound is.number t.chunk is.there).0 is.held)

-- ---- bytes of copies

-- the part of a byte's own copy
own_copy : (p : Profile) (n copy : ℕ) (at : Elements) → IsSomeAnd (mirror_count p n) (λ m. copy < m) → data_part p copy at ≡ Mirror copy
own_copy Raid5 n copy at h = absurd h
own_copy Raid6 n copy at h = absurd h
own_copy p n copy at h = refl

-- the stripe of a copy hangs on the element alone
copy_stripe : (p : Profile) (n copy : ℕ) (at bt : Elements) → at.index ≡ bt.index → stripe_of p n (Mirror copy) at ≡ stripe_of p n (Mirror copy) bt
copy_stripe Raid0 n copy at bt e = e
copy_stripe Raid10 n copy at bt e = ap (λ i. 2 * i + copy) e
copy_stripe p n copy at bt e = refl

-- a byte behind another in one piece lies in the same element
record IsBehind (at bt : Elements) (d : ℕ) : Type 0 where
  row : bt.row ≡ at.row
  index : bt.index ≡ at.index
  rest : bt.rest ≡ at.rest + d

-- bytes that don't reach the next element lie in one row and slice
rows_behind : (o d k : ℕ) → o % 65536 + d < 65536 → IsBehind (record { row = o / 65536 / k; index = o / 65536 % k; rest = o % 65536 })
    (record { row = (o + d) / 65536 / k; index = (o + d) / 65536 % k; rest = (o + d) % 65536 }) d
rows_behind o d k lt =
    let whole : (o + d) / 65536 ≡ o / 65536 = omega (arith, lt) in
    record { row = ap (λ q. q / k) whole; index = ap (λ q. q % k) whole; rest = omega (arith, lt) }

-- the position of an offset in a chunk whose rows have k elements of data, where it has rows
abbrev place_in : Bool → ℕ → ℕ → Elements
place_in b k o = cond b (record { row = o / 65536 / k; index = o / 65536 % k; rest = o % 65536 }) (record { row = 0; index = 0; rest = o })

-- so it is with the bytes of a block that crosses no element
position_behind : (chunk : Chunk) (addr len d : ℕ) → chunk.start ≤ addr → crosses chunk addr len ≡ false → d < len
    → IsBehind (position chunk addr) (position chunk (addr + d)) d
position_behind chunk addr len d from fine lt = by (is_striped chunk.profile) refl
  where
    -- bytes behind an address are as far behind its offset in the chunk
    offset : addr + d - chunk.start ≡ addr - chunk.start + d
    offset = omega (arith, from)

    by : (b : Bool) → is_striped chunk.profile ≡ b → IsBehind (place_in b (data_count chunk.profile (length chunk.stripes)) (addr - chunk.start))
        (place_in b (data_count chunk.profile (length chunk.stripes)) (addr + d - chunk.start)) d
    by true striped = rw offset (rows_behind (addr - chunk.start) d (data_count chunk.profile (length chunk.stripes))
        (omega (arith, striped_fits chunk addr len striped fine, lt)))
    by false mirrored = record { row = refl; index = refl; rest = offset }

-- where a byte of a copy lies on its device
pub record IsCopyByte (layout : Layout) (t : Target) (slot off : ℕ) : Type 0 where
  pub device : Device
  pub behind : ℕ
  pub copy : ℕ
  pub has : HasMirror copy t
  pub below : behind < size_of t
  pub given : device_in layout.devices (place_at t.chunk (Mirror copy) t.at).devid ≡ Some device
  pub same_slot : device.slot ≡ slot
  pub offset : off ≡ (place_at t.chunk (Mirror copy) t.at).offset + behind

-- a byte that a copy's range covers
pub of_range : (layout : Layout) (t : Target) (copy slot off : ℕ) (range : Range) → IsSought layout t → HasMirror copy t → range_of t (Mirror copy)
    ≡ Some range → covers slot off range ≡ true → IsCopyByte layout t slot off
of_range layout t copy slot off range is has e c =
    let place = place_at t.chunk (Mirror copy) t.at in
    let d = on_device place.offset (size_of t) (device_in t.devices place.devid) range e in
    let at = covering slot off range c in
    record {
      device = d.device;
      behind = off - place.offset;
      copy = copy;
      has = has;
      below = omega (arith, at.1, at.2, d.begin, d.long);
      given = ap (λ ds. device_in ds place.devid) (sym is.devices) ∙ d.there;
      same_slot = sym d.slot ∙ at.0;
      offset = omega (arith, at.1, d.begin);
    }

-- a byte that the range of a copy covers is a byte of this copy
pub copy_of_range : (layout : Layout) (t : Target) (copy slot off : ℕ) (range : Range) (is : IsSought layout t) (has : HasMirror copy t)
    (e : range_of t (Mirror copy) ≡ Some range) (c : covers slot off range ≡ true) → (of_range layout t copy slot off range is has e c).copy ≡ copy
unfolding of_range
copy_of_range layout t copy slot off range is has e c = refl

-- it is the byte of an address of the block
pub is_of_copy : (layout : Layout) (t : Target) (slot off : ℕ) → IsTable layout.chunks → (is : IsSought layout t) → (b : IsCopyByte layout t slot off)
    → IsOfCopy layout.chunks (record { devid = (place_at t.chunk (Mirror b.copy) t.at).devid; offset = off }) is.number b.copy (addr_of t.want + b.behind)
is_of_copy layout t slot off table is b =
    let addr = addr_of t.want in
    let sound = (table.sound is.number t.chunk is.there).0 in
    let from = (bounds_of t.chunk addr is.held).0 in
    let there = held_between t.chunk (addr + b.behind) (omega (arith, from))
    (omega (arith, ends_within t.chunk addr (size_of t) is.uncrossed, b.below)) in
    let one = position t.chunk addr in
    let two = position t.chunk (addr + b.behind) in
    let same = position_behind t.chunk addr (size_of t) b.behind from is.uncrossed b.below in
    let at_one = placed_part t.chunk (Mirror b.copy) one sound b.has (IsPosition-position t.chunk addr sound is.held) in
    let at_two = placed_part t.chunk (Mirror b.copy) two sound b.has (IsPosition-position t.chunk (addr + b.behind) sound there) in
    let stripe : at_two.stripe ≡ at_one.stripe =
    same_Some at_two.stripe at_one.stripe (sym at_two.there ∙ ap (slice_get t.chunk.stripes)
    (copy_stripe t.chunk.profile (length t.chunk.stripes) b.copy two one same.index) ∙ at_one.there) in
    let place_one : place_at t.chunk (Mirror b.copy) t.at ≡ place_on at_one.stripe one = ap (place_at t.chunk (Mirror b.copy)) is.at ∙ at_one.place in
    let place_two : place_at t.chunk (Mirror b.copy) two ≡ place_on at_one.stripe two = at_two.place ∙ ap (λ s. place_on s two) stripe in
    let devid : (place_at t.chunk (Mirror b.copy) t.at).devid ≡ at_one.stripe.devid = ap (λ (p : StripePlace). p.devid) place_one in
    let offset : (place_at t.chunk (Mirror b.copy) t.at).offset ≡ at_one.stripe.offset + one.row * 65536 + one.rest =
    ap (λ (p : StripePlace). p.offset) place_one in
    record {
      chunk = t.chunk;
      there = is.there;
      copies = b.has;
      holds = there;
      at = ap (λ part. place_at t.chunk part two) (own_copy t.chunk.profile (length t.chunk.stripes) b.copy two b.has) ∙ place_two
          ∙ same_place at_one.stripe.devid (place_at t.chunk (Mirror b.copy) t.at).devid (at_one.stripe.offset + two.row * 65536 + two.rest) off
          (sym devid) (omega (arith, offset, same.row, same.rest, b.offset));
    }
  where
    same_place : (d e a b : ℕ) → d ≡ e → a ≡ b → ◌≡◌ {A = StripePlace} (record { devid = d; offset = a }) (record { devid = e; offset = b })
    same_place d e a b x y = ap (λ z. record { devid = z; offset = a }) x ∙ ap (λ z. record { devid = e; offset = z }) y

-- two blocks that have a byte of a device in common have an address in common
pub record Shares (t u : Target) : Type 0 where
  pub one : ℕ
  pub other : ℕ
  pub below : one < size_of t
  pub under : other < size_of u
  pub same : addr_of t.want + one ≡ addr_of u.want + other

-- blocks that have a byte of a device in common overlap
pub shares : (layout : Layout) (t u : Target) (slot off : ℕ) → IsTable layout.chunks → HaveOwnSlots layout.devices → IsSought layout t
    → IsSought layout u → IsCopyByte layout t slot off → IsCopyByte layout u slot off → Shares t u
shares layout t u slot off table own is us b c =
    let p = place_at t.chunk (Mirror b.copy) t.at in
    let q = place_at u.chunk (Mirror c.copy) u.at in
    let devid : p.devid ≡ q.devid = own p.devid q.devid b.device c.device b.given c.given (b.same_slot ∙ sym c.same_slot) in
    let both = copies_apart layout.chunks (record { devid = p.devid; offset = off }) is.number us.number b.copy c.copy (addr_of t.want + b.behind)
    (addr_of u.want + c.behind) table (is_of_copy layout t slot off table is b)
    (subst (λ d. IsOfCopy layout.chunks (record { devid = d; offset = off }) us.number c.copy (addr_of u.want + c.behind)) (sym devid)
    (is_of_copy layout u slot off table us c)) in
    record { one = b.behind; other = c.behind; below = b.below; under = c.below; same = both.2 }

-- ---- the stripe of a part

-- a block's part lies in one stripe
pub record OnStripe (t : Target) (part : Part) : Type 0 where
  pub number : ℕ
  pub stripe : Stripe
  pub there : slice_get t.chunk.stripes number ≡ Some stripe
  pub devid : (place_at t.chunk part t.at).devid ≡ stripe.devid
  pub begin : stripe.offset ≤ (place_at t.chunk part t.at).offset
  pub end : (place_at t.chunk part t.at).offset + size_of t ≤ stripe.offset + stripe_length t.chunk

-- a block that crosses no element ends within the chunk's stripes
reaches : (chunk : Chunk) (addr len : ℕ) → IsChunk chunk → holds chunk addr ≡ true → crosses chunk addr len ≡ false
    → (position chunk addr).row * 65536 + (position chunk addr).rest + len ≤ stripe_length chunk
reaches chunk addr len sound held fine = by (is_striped chunk.profile) refl
  where
    -- the address lies between the chunk's ends
    between : (chunk.start ≤ addr) × (addr < chunk.start + chunk.length)
    between = bounds_of chunk addr held

    by : (b : Bool) → is_striped chunk.profile ≡ b → (place_in b (data_count chunk.profile (length chunk.stripes)) (addr - chunk.start)).row *
        65536 + (place_in b (data_count chunk.profile (length chunk.stripes)) (addr - chunk.start)).rest + len ≤ stripe_length chunk
    by true striped = (reaches-rows chunk (addr - chunk.start) len sound striped (omega (arith, between.0, between.1))
        (striped_fits chunk addr len striped fine)).inside
    by false mirrored =
        let k = data_count chunk.profile (length chunk.stripes) in
        let whole : chunk.length / k ≡ chunk.length =
        ap (λ n. chunk.length / n) (data_count-mirrored chunk.profile (length chunk.stripes) mirrored) ∙ omega arith in
        omega (arith, between.0, ends_within chunk addr len fine, whole)

-- each part of a block stands on a stripe of its chunk
pub on_stripe : (layout : Layout) (t : Target) (part : Part) → IsTable layout.chunks → IsSought layout t
    → HasPart t.chunk.profile (length t.chunk.stripes) part → OnStripe t part
on_stripe layout t part table is has =
    let addr = addr_of t.want in
    let sound = (table.sound is.number t.chunk is.there).0 in
    let one = position t.chunk addr in
    let at = placed_part t.chunk part one sound has (IsPosition-position t.chunk addr sound is.held) in
    let place : place_at t.chunk part t.at ≡ place_on at.stripe one = ap (place_at t.chunk part) is.at ∙ at.place in
    let offset : (place_at t.chunk part t.at).offset ≡ at.stripe.offset + one.row * 65536 + one.rest = ap (λ (p : StripePlace). p.offset) place in
    let inside = reaches t.chunk addr (size_of t) sound is.held is.uncrossed in
    record {
      number = stripe_of t.chunk.profile (length t.chunk.stripes) part one;
      stripe = at.stripe;
      there = at.there;
      devid = ap (λ (p : StripePlace). p.devid) place;
      begin = omega (arith, offset);
      end = omega (arith, offset, inside);
    }

-- a range in a block's part lies in a stripe of its chunk
pub part_in_chunk : (layout : Layout) (t : Target) (part : Part) (range inner : Range) → IsTable layout.chunks → IsSought layout t
    → HasPart t.chunk.profile (length t.chunk.stripes) part → range_of t part ≡ Some range → LiesIn inner range → LiesInChunk layout t.chunk inner
part_in_chunk layout t part range inner table is has e lies =
    let on = on_stripe layout t part table is has in
    let place = place_at t.chunk part t.at in
    let d = on_device place.offset (size_of t) (device_in t.devices place.devid) range e in
    in_stripe_of layout t.chunk on.number on.stripe d.device inner on.there
    (ap (device_in layout.devices) (sym on.devid) ∙ ap (λ ds. device_in ds place.devid) (sym is.devices) ∙ d.there) (lies.slot ∙ d.slot)
    (omega (arith, lies.from, d.begin, on.begin)) (omega (arith, lies.to, d.begin, d.long, on.end))

-- so it lies in a stripe of the table
pub in_stripe : (layout : Layout) (t : Target) (part : Part) (range inner : Range) → IsTable layout.chunks → IsSought layout t
    → HasPart t.chunk.profile (length t.chunk.stripes) part → range_of t part ≡ Some range → LiesIn inner range → LiesInStripe layout inner
in_stripe layout t part range inner table is has e lies =
    any_at (λ chunk. LiesInChunk layout chunk inner) layout.chunks is.number t.chunk
    (slice_get_within layout.chunks is.number t.chunk is.there) is.there (part_in_chunk layout t part range inner table is has e lies)

-- what holds of some of a list of one holds of that
pub any_one : {X : Type 0} (P : X → Type 0) (x : X) → Any P (x ∷ []) → P x
any_one P x a = let i = in_any P (x ∷ []) a in elim i.1 [ inl e ↦ subst P (sym e) i.2 | inr none ↦ absurd none ]

-- a range lies in a stripe of a chunk, where that is the only one
pub lies_alone : (layout : Layout) (chunk : Chunk) (range : Range) → LiesInChunk layout chunk range → LiesInStripe (alone layout chunk) range
lies_alone layout chunk range h = any_at (λ c. LiesInChunk (alone layout chunk) c range) (chunk ∷ []) 0 chunk (omega arith) refl h

-- what lies in a stripe of a chunk alone lies in this chunk
pub alone_lies : (layout : Layout) (chunk : Chunk) (range : Range) → LiesInStripe (alone layout chunk) range → LiesInChunk layout chunk range
alone_lies layout chunk range any = any_one (λ c. LiesInChunk layout c range) chunk any

-- a range in a copy of a block lies in a stripe of its chunk
pub copy_in_stripe : (layout : Layout) (t : Target) (range : Range) → IsTable layout.chunks → IsSought layout t → IsOfMirror t range
    → LiesInStripe (alone layout t.chunk) range
copy_in_stripe layout t range table is h = lies_alone layout t.chunk range (by (range_of t (Mirror h.mirror)) refl h.lies)
  where
    by : (o : Option Range) → range_of t (Mirror h.mirror) ≡ o → Any (LiesIn range) (cons_option o []) → LiesInChunk layout t.chunk range
    by None e a = absurd (omega (arith, a.2))
    by (Some r) e a = part_in_chunk layout t (Mirror h.mirror) r range table is h.has e (any_one (LiesIn range) r a)
