-- Each byte of a chunk has places of its own.
use Rattle.std.proofs.Common.{◌≡◌, ℕ, zero, suc, ◌+◌, ◌-◌, ◌*◌, ◌/◌, ◌%◌, ◌<◌, ◌≤◌, Bool, true, false, eqb, nat_lt, nat_le, List, [], ◌∷◌, length, Option, Some}
use Rattle.std.proofs.Common.{None, IsNone, IfSome, IsSomeAnd, slice_get, inl, inr, sym, ap, ◌∙◌, refl, arith}
use Rattle.std.proofs.lemmas.Bool.{and_parts, and_from, leb-true, ltb-true, lt-ltb, eq-eqb, cases_order, true≢false, false≢true}
use Rattle.std.proofs.lemmas.Nat.{div-add-mod', mod_below, same_from_place}
use Rattle.btr_chunk.specs.declared.stripe.Stripe.{Stripe}
use Rattle.btr_chunk.specs.declared.chunk.Chunk.{Chunk}
use Rattle.btr_chunk.specs.declared.position.Elements.{Elements}
use Rattle.btr_chunk.specs.declared.place.StripePlace.{StripePlace}
use Rattle.btr_chunk.specs.declared.place.Part.{Part}
use Rattle.btr_chunk.specs.declared.place.Part.TheVariants.{Mirror, Slice, P, Q}
use Rattle.btr_chunk.specs.declared.profile.Profile.{Profile}
use Rattle.btr_chunk.specs.declared.profile.Profile.TheVariants.{Single, Dup, Raid0, Raid1, Raid1c3, Raid1c4, Raid10, Raid5, Raid6}
use Rattle.btr_chunk.specs.Chunk.{IsChunk, has_count, is_striped, data_count, stripe_length, mirror_count}
use Rattle.btr_chunk.specs.Extents.{ranges_meet}
use Rattle.btr_chunk.specs.Mapping.{HasPart, IsPosition, IsInStripe, holds, position, stripe_of, place_on, place_at, data_part, data_place}
use Rattle.btr_chunk.specs.Table.{stripes_meet, some_meet}
use Rattle.btr_chunk.proofs.Overlaps.{some_meet-apart}
use Rattle.btr_chunk.proofs.Rows.{stripe_of-turned, turn-same}
use Rattle.btr_chunk.proofs.Rule.{facts, data_count-mirrored, position-rows}

-- what is not there is none
none_is : {X : Type 0} (o : Option X) → IsNone o → o ≡ None
none_is None none = refl
none_is (Some x) none = absurd (true≢false none)

-- a copy lies on one of the stripes
mirror-below : (profile : Profile) (n i : ℕ) (at : Elements) → has_count profile n ≡ true → HasPart profile n (Mirror i) → at.index < data_count profile n
    → stripe_of profile n (Mirror i) at < n
mirror-below Single n i at count has index = has
mirror-below Dup n i at count has index = has
mirror-below Raid1 n i at count has index = has
mirror-below Raid1c3 n i at count has index = has
mirror-below Raid1c4 n i at count has index = has
mirror-below Raid0 n i at count has index = index
mirror-below Raid10 n i at count has index = omega (arith, has)
mirror-below Raid5 n i at count has index = absurd has
mirror-below Raid6 n i at count has index = absurd has

-- and so does each part
pub stripe_of-below : (profile : Profile) (n : ℕ) (part : Part) (at : Elements) → has_count profile n ≡ true → HasPart profile n part
    → at.index < data_count profile n
    → stripe_of profile n part at < n
stripe_of-below profile n (Mirror i) at count has index = mirror-below profile n i at count has index
stripe_of-below profile n (Slice i) at count has index =
    let turned = stripe_of-turned profile n (Slice i) at (none_is (mirror_count profile n) has.0) count has in
    rw turned.0 (mod_below (at.row + _) n (omega (arith, turned.1)))
stripe_of-below profile n P at count has index =
    let turned = stripe_of-turned profile n P at (none_is (mirror_count profile n) has) count has in
    rw turned.0 (mod_below (at.row + _) n (omega (arith, turned.1)))
stripe_of-below profile n Q at count has index =
    let turned = stripe_of-turned profile n Q at (ap (λ p. mirror_count p n) has) count has in
    rw turned.0 (mod_below (at.row + _) n (omega (arith, turned.1)))

-- the element at a place of a list
pub at-below : {X : Type 0} (xs : List X) (i : ℕ) → i < length xs → (x : X) × (slice_get xs i ≡ Some x)
at-below [] i within = absurd (omega arith)
at-below (x ∷ xs) zero within = (x, refl)
at-below (x ∷ xs) (suc i) within = at-below xs i (omega arith)

-- the stripe of a part, and the part's place on it
pub record Placed (chunk : Chunk) (part : Part) (at : Elements) : Type 0 where
  pub stripe : Stripe
  pub there : slice_get chunk.stripes (stripe_of chunk.profile (length chunk.stripes) part at) ≡ Some stripe
  pub place : place_at chunk part at ≡ place_on stripe at

-- a part of a position has its stripe in the chunk, and its place on that stripe
pub placed_part : (chunk : Chunk) (part : Part) (at : Elements) → IsChunk chunk → HasPart chunk.profile (length chunk.stripes) part
    → IsPosition chunk at → Placed chunk part at
placed_part chunk part at is has position =
    let n = length chunk.stripes in
    let found = at-below chunk.stripes (stripe_of chunk.profile n part at)
    (stripe_of-below chunk.profile n part at (facts chunk is).count has position.index) in
    record { stripe = found.0; there = found.1; place = rw found.1 refl }

-- the bytes from a place on lie in its stripe
pub place-inside : (chunk : Chunk) (part : Part) (at : Elements) (size : ℕ) → IsChunk chunk → HasPart chunk.profile (length chunk.stripes) part
    → IsPosition chunk at
    → at.row * 65536 + at.rest + size ≤ stripe_length chunk
    → IsSomeAnd (slice_get chunk.stripes (stripe_of chunk.profile (length chunk.stripes) part at))
    (λ stripe. IsInStripe (stripe_length chunk) stripe (place_at chunk part at) size)
place-inside chunk part at size is has position inside =
    let found = placed_part chunk part at is has position in
    rw (found.place, found.there) (record { device = refl; begin = omega arith; end = omega arith })

-- bytes of one row on one stripe are of one element
index-same : (profile : Profile) (n copy : ℕ) (at bt : Elements) → is_striped profile ≡ true → has_count profile n ≡ true
    → at.index < data_count profile n → bt.index < data_count profile n
    → at.row ≡ bt.row → stripe_of profile n (data_part profile copy at) at ≡ stripe_of profile n (data_part profile copy bt) bt → at.index ≡ bt.index
index-same Raid0 n copy at bt striped count one two row same = same
index-same Raid10 n copy at bt striped count one two row same = omega arith
index-same Raid5 n copy at bt striped count one two row same =
    turn-same at.row at.index bt.index n (omega arith) (omega arith) (same ∙ ap (λ q. (q + bt.index) % n) (sym row))
index-same Raid6 n copy at bt striped count one two row same =
    turn-same at.row at.index bt.index n (omega arith) (omega arith) (same ∙ ap (λ q. (q + bt.index) % n) (sym row))
index-same Single n copy at bt striped count one two row same = absurd (false≢true striped)
index-same Dup n copy at bt striped count one two row same = absurd (false≢true striped)
index-same Raid1 n copy at bt striped count one two row same = absurd (false≢true striped)
index-same Raid1c3 n copy at bt striped count one two row same = absurd (false≢true striped)
index-same Raid1c4 n copy at bt striped count one two row same = absurd (false≢true striped)

-- an offset by its row, its element and what is left
offset-same : (o p d : ℕ) → o / 65536 / d ≡ p / 65536 / d → o / 65536 % d ≡ p / 65536 % d → o % 65536 ≡ p % 65536 → o ≡ p
offset-same o p d row index left =
    let one = div-add-mod' (o / 65536) d in
    let two = div-add-mod' (p / 65536) d in
    let rows = ap (λ q. q * d) row in
    omega arith

-- a byte's own part is there
data_part-has : (profile : Profile) (n copy : ℕ) (at : Elements) → IfSome (mirror_count profile n) (λ copies. copy < copies) → at.index < data_count profile n
    → HasPart profile n (data_part profile copy at)
data_part-has Single n copy at some index = some
data_part-has Dup n copy at some index = some
data_part-has Raid1 n copy at some index = some
data_part-has Raid1c3 n copy at some index = some
data_part-has Raid1c4 n copy at some index = some
data_part-has Raid0 n copy at some index = some
data_part-has Raid10 n copy at some index = some
data_part-has Raid5 n copy at some index = (refl, index)
data_part-has Raid6 n copy at some index = (refl, index)

-- bytes at one place of a device lie on one stripe, where the stripes are apart
stripe-same : (len : ℕ) (stripes : List Stripe) (i j : ℕ) (s t : Stripe) (a b : ℕ) → some_meet len stripes ≡ false → slice_get stripes i ≡ Some s
    → slice_get stripes j ≡ Some t
    → s.devid ≡ t.devid → a < len → b < len → s.offset + a ≡ t.offset + b → i ≡ j
stripe-same len stripes i j s t a b spread here there device within too same =
    elim (cases_order i j) [
      | inl equal ↦ equal
      | inr (inl below) ↦ absurd (true≢false (sym (meets s t device (omega arith) (omega arith)) ∙ some_meet-apart len stripes spread i j s t below here there))
      | inr (inr above) ↦ absurd (true≢false (sym (meets t s (sym device) (omega arith) (omega arith))
          ∙ some_meet-apart len stripes spread j i t s above there here))
    ]
  where
    -- stripes of one device with a byte in common meet
    meets : (x y : Stripe) → x.devid ≡ y.devid → x.offset < y.offset + len → y.offset < x.offset + len → stripes_meet len x len y ≡ true
    meets x y d one two =
        and_from (eqb x.devid y.devid) (ranges_meet x.offset len y.offset len) (eq-eqb _ _ d)
        (and_from (nat_lt x.offset (y.offset + len)) (nat_lt y.offset (x.offset + len)) (lt-ltb _ _ one) (lt-ltb _ _ two))

-- the position of a byte in a profile with rows, and in one without
pub striped-position : (chunk : Chunk) (addr : ℕ) → is_striped chunk.profile ≡ true
    → position chunk addr ≡ record {
      row = (addr - chunk.start) / 65536 / data_count chunk.profile (length chunk.stripes);
      index = (addr - chunk.start) / 65536 % data_count chunk.profile (length chunk.stripes);
      rest = (addr - chunk.start) % 65536;
    }
striped-position chunk addr striped = rw striped refl

-- in a profile without rows a byte's position is its offset in the chunk
mirrored-position : (chunk : Chunk) (addr : ℕ) → is_striped chunk.profile ≡ false
    → position chunk addr ≡ record { row = 0; index = 0; rest = addr - chunk.start }
mirrored-position chunk addr mirrored = rw mirrored refl

-- the position of a chunk's byte
pub IsPosition-position : (chunk : Chunk) (addr : ℕ) → IsChunk chunk → holds chunk addr ≡ true → IsPosition chunk (position chunk addr)
IsPosition-position chunk addr is held =
    let both = and_parts (nat_le chunk.start addr) (nat_lt addr (chunk.start + chunk.length)) held in
    let from = leb-true chunk.start addr both.0 in
    let to = ltb-true addr (chunk.start + chunk.length) both.1 in
    by_rows from to (is_striped chunk.profile) refl
  where
    -- a chunk's byte has a position, with rows or without
    by_rows : chunk.start ≤ addr → addr < chunk.start + chunk.length → (b : Bool) → is_striped chunk.profile ≡ b → IsPosition chunk (position chunk addr)
    by_rows from to true striped = rw (striped-position chunk addr striped) (position-rows chunk (addr - chunk.start) is striped (omega arith))
    by_rows from to false mirrored =
        let one = data_count-mirrored chunk.profile (length chunk.stripes) mirrored in
        rw (mirrored-position chunk addr mirrored) (record { index = omega (arith, one); inside = rw one (omega arith) })

-- two bytes at one position of the stripes are one
position-same : (chunk : Chunk) (copy a b : ℕ) → IsChunk chunk → chunk.start ≤ a → chunk.start ≤ b → IsPosition chunk (position chunk a)
    → IsPosition chunk (position chunk b)
    → (position chunk a).row * 65536 + (position chunk a).rest ≡ (position chunk b).row * 65536 + (position chunk b).rest
    → stripe_of chunk.profile (length chunk.stripes) (data_part chunk.profile copy (position chunk a)) (position chunk a)
    ≡ stripe_of chunk.profile (length chunk.stripes) (data_part chunk.profile copy (position chunk b)) (position chunk b)
    → a ≡ b
position-same chunk copy a b is from too one two place stripe = by_rows (is_striped chunk.profile) refl
  where
    -- two bytes at one position of the stripes are one, with rows or without
    by_rows : (c : Bool) → is_striped chunk.profile ≡ c → a ≡ b
    by_rows true striped =
        let pa = striped-position chunk a striped in
        let pb = striped-position chunk b striped in
        let rest_a = ap (λ p. p.rest) pa in
        let rest_b = ap (λ p. p.rest) pb in
        let small_a = mod_below (a - chunk.start) 65536 (omega arith) in
        let small_b = mod_below (b - chunk.start) 65536 (omega arith) in
        let split = same_from_place (position chunk a).row (position chunk a).rest (position chunk b).row (position chunk b).rest 65536 (omega arith)
        (omega arith) place in
        let index = index-same chunk.profile (length chunk.stripes) copy (position chunk a) (position chunk b) striped
        (facts chunk is).count one.index two.index split.0 stripe in
        let offset = offset-same (a - chunk.start) (b - chunk.start) (data_count chunk.profile (length chunk.stripes))
        (sym (ap (λ p. p.row) pa) ∙ split.0 ∙ ap (λ p. p.row) pb) (sym (ap (λ p. p.index) pa) ∙ index ∙ ap (λ p. p.index) pb) (sym rest_a ∙ split.1 ∙ rest_b) in
        omega arith
    by_rows false mirrored =
        let pa = mirrored-position chunk a mirrored in
        let pb = mirrored-position chunk b mirrored in
        let row_a = ap (λ p. p.row) pa in
        let row_b = ap (λ p. p.row) pb in
        let rest_a = ap (λ p. p.rest) pa in
        let rest_b = ap (λ p. p.rest) pb in
        omega arith

-- two addresses of a chunk have no place in common in one copy
pub data_place-same : (chunk : Chunk) (copy a b : ℕ) → IsChunk chunk → some_meet (stripe_length chunk) chunk.stripes ≡ false
    → IfSome (mirror_count chunk.profile (length chunk.stripes)) (λ copies. copy < copies) → holds chunk a ≡ true → holds chunk b ≡ true
    → data_place chunk copy a ≡ data_place chunk copy b → a ≡ b
data_place-same chunk copy a b is spread some held too same =
    let n = length chunk.stripes in
    let from = leb-true chunk.start a (and_parts (nat_le chunk.start a) (nat_lt a (chunk.start + chunk.length)) held).0 in
    let from_b = leb-true chunk.start b (and_parts (nat_le chunk.start b) (nat_lt b (chunk.start + chunk.length)) too).0 in
    let one = IsPosition-position chunk a is held in
    let two = IsPosition-position chunk b is too in
    let pa = placed_part chunk (data_part chunk.profile copy (position chunk a)) (position chunk a) is
    (data_part-has chunk.profile n copy (position chunk a) some one.index) one in
    let pb = placed_part chunk (data_part chunk.profile copy (position chunk b)) (position chunk b) is
    (data_part-has chunk.profile n copy (position chunk b) some two.index) two in
    let places = sym pa.place ∙ same ∙ pb.place in
    let device = ap (λ (p : StripePlace). p.devid) places in
    let offset = ap (λ (p : StripePlace). p.offset) places in
    let stripe = stripe-same (stripe_length chunk) chunk.stripes _ _ pa.stripe pb.stripe
    ((position chunk a).row * 65536 + (position chunk a).rest) ((position chunk b).row * 65536 + (position chunk b).rest)
    spread pa.there pb.there device one.inside two.inside (omega arith) in
    let twice : Some pa.stripe ≡ Some pb.stripe = sym pa.there ∙ ap (slice_get chunk.stripes) stripe ∙ pb.there in
    let equal : pa.stripe ≡ pb.stripe = cc in
    let begin = ap (λ (s : Stripe). s.offset) equal in
    position-same chunk copy a b is from from_b one two (omega arith) stripe
