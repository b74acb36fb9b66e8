-- Each byte of a device is of one stripe, of one part of a row, and of one copy at most.
use Rattle.std.proofs.Common.{◌≡◌, ℕ, ◌+◌, ◌-◌, ◌*◌, ◌%◌, ◌<◌, true, eqb, ltb, List, length, Option, Some, None, IfSome, IsSomeAnd, slice_get, refl, sym, ap}
use Rattle.std.proofs.Common.{◌∙◌, subst, inl, inr, arith}
use Rattle.std.proofs.lemmas.Bool.{false≢true, and_from, cases_order, eq-eqb, lt-ltb}
use Rattle.std.proofs.lemmas.Option.{same_Some}
use Rattle.btr_chunk.specs.Chunk.{mirror_count, mirrors, stripe_length}
use Rattle.btr_chunk.specs.Extents.{ranges_meet}
use Rattle.btr_chunk.specs.Mapping.{HasPart, IsInStripe, holds, data_part, data_place, place_at, place_on, position as position_of, stripe_of}
use Rattle.btr_chunk.specs.Table.{IsTable, stripes_meet}
use Rattle.btr_chunk.specs.Apart.{LiesIn, StripesApart, IsOfPart, PartsApart, IsOfCopy, CopiesApart}
use Rattle.btr_chunk.specs.declared.chunk.Chunk.{Chunk}
use Rattle.btr_chunk.specs.declared.place.Part.{Part}
use Rattle.btr_chunk.specs.declared.place.Part.TheVariants.{Mirror, Slice, P, Q}
use Rattle.btr_chunk.specs.declared.place.StripePlace.{StripePlace}
use Rattle.btr_chunk.specs.declared.position.Elements.{Elements}
use Rattle.btr_chunk.specs.declared.profile.Profile.{Profile}
use Rattle.btr_chunk.specs.declared.profile.Profile.TheVariants.{Single, Dup, Raid0, Raid1, Raid1c3, Raid1c4, Raid10, Raid5, Raid6}
use Rattle.btr_chunk.specs.declared.stripe.Stripe.{Stripe}
use Rattle.btr_chunk.proofs.Bytes.{placed_part, place-inside, IsPosition-position, data_place-same}
use Rattle.btr_chunk.proofs.Overlaps.{chunks_meet-stripes, some_meet-apart}
use Rattle.btr_chunk.proofs.Rows.{without_copies, stripe_of-same}
use Rattle.btr_chunk.proofs.Rule.{facts}

-- stripes that share a byte meet
sharing : (place : StripePlace) (len : ℕ) (s : Stripe) (other : ℕ) (u : Stripe) → IsInStripe len s place 1 → IsInStripe other u place 1
    → stripes_meet len s other u ≡ true
sharing place len s other u one two =
    and_from (eqb s.devid u.devid) (ranges_meet s.offset len u.offset other) (eq-eqb s.devid u.devid (sym one.device ∙ two.device))
    (and_from (ltb s.offset (u.offset + other)) (ltb u.offset (s.offset + len))
    (lt-ltb s.offset (u.offset + other) (omega (arith, one.begin, two.end))) (lt-ltb u.offset (s.offset + len) (omega (arith, two.begin, one.end))))

module _ (chunks : List Chunk) (place : StripePlace) (table : IsTable chunks) where
  -- not in two chunks
  not_before : (i j k l : ℕ) → LiesIn chunks place i k → LiesIn chunks place j l → i < j → ⊥
  not_before i j k l a b lt =
      let apart = table.apart i j a.chunk b.chunk lt a.there b.there in
      false≢true (sym apart.1 ∙ chunks_meet-stripes a.chunk b.chunk k l a.stripe b.stripe a.stripe_there b.stripe_there
      (sharing place (stripe_length a.chunk) a.stripe (stripe_length b.chunk) b.stripe a.inside b.inside))

  -- a byte of a device lies in one chunk at most
  same_chunk : (i j k l : ℕ) → LiesIn chunks place i k → LiesIn chunks place j l → i ≡ j
  same_chunk i j k l a b = elim (cases_order i j) [
    | inl e ↦ e
    | inr (inl lt) ↦ absurd (not_before i j k l a b lt)
    | inr (inr gt) ↦ absurd (not_before j i l k b a gt)
  ]

  -- nor in two stripes of one
  not_earlier : (i k l : ℕ) → LiesIn chunks place i k → LiesIn chunks place i l → k < l → ⊥
  not_earlier i k l a b lt =
      let same : b.chunk ≡ a.chunk = same_Some b.chunk a.chunk (sym b.there ∙ a.there) in
      let there : slice_get a.chunk.stripes l ≡ Some b.stripe = subst (λ c. slice_get c.stripes l ≡ Some b.stripe) same b.stripe_there in
      let inside : IsInStripe (stripe_length a.chunk) b.stripe place 1 = subst (λ c. IsInStripe (stripe_length c) b.stripe place 1) same b.inside in
      false≢true (sym (some_meet-apart (stripe_length a.chunk) a.chunk.stripes (table.sound i a.chunk a.there).1 k l a.stripe b.stripe lt a.stripe_there there)
      ∙ sharing place (stripe_length a.chunk) a.stripe (stripe_length a.chunk) b.stripe a.inside inside)

  -- a byte of a device lies in one stripe of a chunk at most
  same_stripe : (i k l : ℕ) → LiesIn chunks place i k → LiesIn chunks place i l → k ≡ l
  same_stripe i k l a b = elim (cases_order k l) [
    | inl e ↦ e
    | inr (inl lt) ↦ absurd (not_earlier i k l a b lt)
    | inr (inr gt) ↦ absurd (not_earlier i l k b a gt)
  ]

-- each byte of a device lies in one stripe of one chunk at most
pub stripes_apart : StripesApart
stripes_apart chunks place i j k l table a b =
    let e = same_chunk chunks place table i j k l a b in
    (e, same_stripe chunks place table i k l a (subst (λ n. LiesIn chunks place n l) (sym e) b))

-- ---- parts

-- the stripe of a part hangs on the row alone
pub stripe-row : (p : Profile) (n : ℕ) (q : Part) (at bt : Elements) → mirror_count p n ≡ None → at.row ≡ bt.row → stripe_of p n q at ≡ stripe_of p n q bt
stripe-row p n q at bt none e = elim (without_copies p n none) [
  | inl five ↦ subst (λ p. stripe_of p n q at ≡ stripe_of p n q bt) (sym five) (with_five q)
  | inr six ↦ subst (λ p. stripe_of p n q at ≡ stripe_of p n q bt) (sym six) (with_six q)
]
  where
    -- in RAID5 the stripe of a part hangs on the row alone
    with_five : (q : Part) → stripe_of Raid5 n q at ≡ stripe_of Raid5 n q bt
    with_five (Mirror i) = refl
    with_five (Slice i) = ap (λ r. (r + i) % n) e
    with_five P = ap (λ r. (r + (n - 1)) % n) e
    with_five Q = refl

    -- in RAID6 the stripe of a part hangs on the row alone
    with_six : (q : Part) → stripe_of Raid6 n q at ≡ stripe_of Raid6 n q bt
    with_six (Mirror i) = refl
    with_six (Slice i) = ap (λ r. (r + i) % n) e
    with_six P = ap (λ r. (r + (n - 2)) % n) e
    with_six Q = ap (λ r. (r + (n - 2) + 1) % n) e

-- the position of a byte of a row
abbrev in_row : ℕ → ℕ → Elements
in_row row rest = record { row = row; index = 0; rest = rest }

-- the stripe of a byte of a part, and where the byte lies on it
record IsAt (chunks : List Chunk) (place : StripePlace) (i row rest : ℕ) (part : Part) (c : IsOfPart chunks place i row rest part) : Type 0 where
  stripe : Stripe
  there : slice_get c.chunk.stripes (stripe_of c.chunk.profile (length c.chunk.stripes) part (in_row row rest)) ≡ Some stripe
  offset : place.offset ≡ stripe.offset + row * 65536 + rest
  lies : LiesIn chunks place i (stripe_of c.chunk.profile (length c.chunk.stripes) part (in_row row rest))

-- a byte of a part of a row lies on the part's stripe, at the row's element and the byte's offset
is_at : (chunks : List Chunk) (place : StripePlace) (i row rest : ℕ) (part : Part) → IsTable chunks → (c : IsOfPart chunks place i row rest part)
    → IsAt chunks place i row rest part c
is_at chunks place i row rest part table c =
    let p = placed_part c.chunk part (in_row row rest) (table.sound i c.chunk c.there).0 c.has c.position in
    let at : place ≡ place_on p.stripe (in_row row rest) = sym c.at ∙ p.place in
    let offset : place.offset ≡ p.stripe.offset + row * 65536 + rest = ap (λ (q : StripePlace). q.offset) at in
    record {
      stripe = p.stripe;
      there = p.there;
      offset = offset;
      lies = record {
        chunk = c.chunk;
        there = c.there;
        stripe = p.stripe;
        stripe_there = p.there;
        inside = record { device = ap (λ (q : StripePlace). q.devid) at; begin = omega (arith, offset); end = omega (arith, offset, c.position.inside) };
      };
    }

-- each byte of a device is of one part of one row at most, and at one offset there
pub parts_apart : PartsApart
parts_apart chunks place i j row other rest also part another table a b =
    let x = is_at chunks place i row rest part table a in
    let y = is_at chunks place j other also another table b in
    let n = length a.chunk.stripes in
    let both = stripes_apart chunks place i j (stripe_of a.chunk.profile n part (in_row row rest))
    (stripe_of b.chunk.profile (length b.chunk.stripes) another (in_row other also)) table x.lies y.lies in
    let chunk : b.chunk ≡ a.chunk = same_Some b.chunk a.chunk (sym b.there ∙ ap (slice_get chunks) (sym both.0) ∙ a.there) in
    let numbers : stripe_of a.chunk.profile n part (in_row row rest) ≡ stripe_of a.chunk.profile n another (in_row other also) =
    both.1 ∙ ap (λ c. stripe_of c.profile (length c.stripes) another (in_row other also)) chunk in
    let there : slice_get a.chunk.stripes (stripe_of a.chunk.profile n part (in_row row rest)) ≡ Some y.stripe =
    ap (slice_get a.chunk.stripes) numbers ∙ subst (λ c. slice_get c.stripes (stripe_of c.profile (length c.stripes) another (in_row other also))
    ≡ Some y.stripe) chunk y.there in
    let stripe : x.stripe ≡ y.stripe = same_Some x.stripe y.stripe (sym x.there ∙ there) in
    let offset : x.stripe.offset ≡ y.stripe.offset = ap (λ (s : Stripe). s.offset) stripe in
    let same : row * 65536 + rest ≡ other * 65536 + also = omega (arith, x.offset, y.offset, offset) in
    let rows : row ≡ other = omega (arith, same, a.within, b.within) in
    let rests : rest ≡ also = omega (arith, same, rows) in
    let has : HasPart a.chunk.profile n another = subst (λ c. HasPart c.profile (length c.stripes) another) chunk b.has in
    let on_one : stripe_of a.chunk.profile n part (in_row row rest) ≡ stripe_of a.chunk.profile n another (in_row row rest) =
    numbers ∙ stripe-row a.chunk.profile n another (in_row other also) (in_row row rest) a.parity (sym rows) in (
      both.0,
      rows,
      rests,
      stripe_of-same a.chunk.profile n part another (in_row row rest) a.parity (facts a.chunk (table.sound i a.chunk a.there).0).count a.has has on_one,
    )

-- ---- copies

-- where there are copies, a position's own part is its copy
pub own : (p : Profile) (n copy : ℕ) (at : Elements) → IsSomeAnd (mirror_count p n) (λ m. copy < m) → data_part p copy at ≡ Mirror copy
own Single n copy at h = refl
own Dup n copy at h = refl
own Raid0 n copy at h = refl
own Raid1 n copy at h = refl
own Raid1c3 n copy at h = refl
own Raid1c4 n copy at h = refl
own Raid10 n copy at h = refl
own Raid5 n copy at h = absurd h
own Raid6 n copy at h = absurd h

-- copies on one stripe are the same one
copy_of : (p : Profile) (n c d : ℕ) (at bt : Elements) → IsSomeAnd (mirror_count p n) (λ m. c < m) → IsSomeAnd (mirror_count p n) (λ m. d < m)
    → stripe_of p n (Mirror c) at ≡ stripe_of p n (Mirror d) bt → c ≡ d
copy_of Single n c d at bt h g e = e
copy_of Dup n c d at bt h g e = e
copy_of Raid0 n c d at bt h g e = omega (arith, h, g)
copy_of Raid1 n c d at bt h g e = e
copy_of Raid1c3 n c d at bt h g e = e
copy_of Raid1c4 n c d at bt h g e = e
copy_of Raid10 n c d at bt h g e = omega (arith, h, g, e)
copy_of Raid5 n c d at bt h g e = absurd h
copy_of Raid6 n c d at bt h g e = absurd h

-- where something holds of a stripe, there is one
some_at : (o : Option Stripe) (Is : Stripe → Type 0) → IsSomeAnd o Is → (s : Stripe) × (o ≡ Some s) × Is s
some_at None Is h = absurd h
some_at (Some s) Is h = (s, refl, h)

-- a copy that is below the number of copies is so where there is such a number
some_less : (o : Option ℕ) (c : ℕ) → IsSomeAnd o (λ m. c < m) → IfSome o (λ m. c < m)
some_less None c h = tt
some_less (Some m) c h = h

-- a byte of a copy lies on the stripe of that copy
lies : (chunks : List Chunk) (place : StripePlace) (i copy addr : ℕ) → IsTable chunks → (c : IsOfCopy chunks place i copy addr)
    → LiesIn chunks place i (stripe_of c.chunk.profile (length c.chunk.stripes) (Mirror copy) (position_of c.chunk addr))
lies chunks place i copy addr table c =
    let is = (table.sound i c.chunk c.there).0 in
    let at = position_of c.chunk addr in
    let position = IsPosition-position c.chunk addr is c.holds in
    let inside = place-inside c.chunk (Mirror copy) at 1 is c.copies position (omega (arith, position.inside)) in
    let s = some_at (slice_get c.chunk.stripes (stripe_of c.chunk.profile (length c.chunk.stripes) (Mirror copy) at))
    (λ stripe. IsInStripe (stripe_length c.chunk) stripe (place_at c.chunk (Mirror copy) at) 1) inside in
    let here : place_at c.chunk (Mirror copy) at ≡ place =
    ap (λ q. place_at c.chunk q at) (sym (own c.chunk.profile (length c.chunk.stripes) copy at c.copies)) ∙ c.at in
    record { chunk = c.chunk; there = c.there; stripe = s.0; stripe_there = s.1; inside = subst (λ p. IsInStripe (stripe_length c.chunk) s.0 p 1) here s.2 }

-- each byte of a device is that of one address in one copy at most
pub copies_apart : CopiesApart
copies_apart chunks place i j copy other addr also table a b =
    let both = stripes_apart chunks place i j (stripe_of a.chunk.profile (length a.chunk.stripes) (Mirror copy) (position_of a.chunk addr))
    (stripe_of b.chunk.profile (length b.chunk.stripes) (Mirror other) (position_of b.chunk also)) table
    (lies chunks place i copy addr table a) (lies chunks place j other also table b) in
    let chunk : b.chunk ≡ a.chunk = same_Some b.chunk a.chunk (sym b.there ∙ ap (slice_get chunks) (sym both.0) ∙ a.there) in
    let copies : IsSomeAnd (mirrors a.chunk) (λ n. other < n) = subst (λ c. IsSomeAnd (mirrors c) (λ n. other < n)) chunk b.copies in
    let same : copy ≡ other = copy_of a.chunk.profile (length a.chunk.stripes) copy other (position_of a.chunk addr) (position_of a.chunk also) a.copies copies
    (both.1 ∙ ap (λ c. stripe_of c.profile (length c.stripes) (Mirror other) (position_of c also)) chunk) in
    let is = table.sound i a.chunk a.there in
    let holds = subst (λ c. holds c also ≡ true) chunk b.holds in
    let there : data_place a.chunk copy also ≡ place = ap (λ c. data_place a.chunk c also) same ∙ ap (λ c. data_place c other also) (sym chunk) ∙ b.at in
    (both.0, same, data_place-same a.chunk copy addr also is.0 is.1 (some_less (mirrors a.chunk) copy a.copies) a.holds holds (a.at ∙ sym there))
