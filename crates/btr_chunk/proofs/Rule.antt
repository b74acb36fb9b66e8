-- What the rule of chunks says, fact by fact.
use Rattle.std.proofs.Common.{List, [], ◌∷◌, zero, suc, ◌≡◌, ℕ, ◌+◌, ◌*◌, ◌/◌, ◌%◌, ◌^◌, ◌<◌, ◌≤◌, Bool, true, false, ◌&&◌, not, eqb, nat_lt, length, Some}
use Rattle.std.proofs.Common.{slice_get, sym, ap, ◌∙◌, refl, arith}
use Rattle.std.proofs.lemmas.Bool.{and_parts, ltb-true, eqb-true, eqb-false, leb-true, not-true, true≢false}
use Rattle.std.proofs.lemmas.Nat.{mod_below, div-add-mod', div-mul-add, div_below}
use Rattle.std.specs.List.{list_all}
use Rattle.btr_chunk.specs.declared.stripe.Stripe.{Stripe}
use Rattle.btr_chunk.specs.declared.chunk.Chunk.{Chunk}
use Rattle.btr_chunk.specs.declared.profile.Profile.{Profile}
use Rattle.btr_chunk.specs.declared.profile.Profile.TheVariants.{Single, Dup, Raid0, Raid1, Raid1c3, Raid1c4, Raid10, Raid5, Raid6}
use Rattle.btr_chunk.specs.Chunk.{IsChunk, has_count, is_striped, data_count, unit_of, stripe_length, is_stripe}
use Rattle.btr_chunk.specs.Mapping.{IsPosition, LieInOnePiece}

-- what each chunk keeps
pub record Facts (chunk : Chunk) : Type 0 where
  pub count : has_count chunk.profile (length chunk.stripes) ≡ true
  pub aligned : chunk.start % 4096 ≡ 0
  pub whole : chunk.length % unit_of chunk.profile (length chunk.stripes) ≡ 0
  pub some : 0 < chunk.length
  pub in_range : chunk.start + chunk.length < 2 ^ 64
  pub stripes : list_all (is_stripe (stripe_length chunk)) chunk.stripes ≡ true

-- the six tests of the rule, one by one
six : (a b c d e f : Bool) → (a && b && c && d && e && f) ≡ true → (a ≡ true) × (b ≡ true) × (c ≡ true) × (d ≡ true) × (e ≡ true) × (f ≡ true)
six true true true true true true h = (refl, refl, refl, refl, refl, refl)
six false b c d e f h = absurd (true≢false (sym h))
six true false c d e f h = absurd (true≢false (sym h))
six true true false d e f h = absurd (true≢false (sym h))
six true true true false e f h = absurd (true≢false (sym h))
six true true true true false f h = absurd (true≢false (sym h))
six true true true true true false h = absurd (true≢false (sym h))

-- a chunk that keeps the rule keeps each part of it
pub facts : (chunk : Chunk) → IsChunk chunk → Facts chunk
facts chunk is =
    let n = length chunk.stripes in
    let t = six (has_count chunk.profile n) (eqb (chunk.start % 4096) 0) (eqb (chunk.length % unit_of chunk.profile n) 0)
    (not (eqb chunk.length 0)) (nat_lt (chunk.start + chunk.length) (2 ^ 64)) (list_all (is_stripe (stripe_length chunk)) chunk.stripes) is.rule in
    let filled = eqb-false chunk.length 0 (not-true _ t.3) in
    record {
      count = t.0;
      aligned = eqb-true _ _ t.1;
      whole = eqb-true _ _ t.2;
      some = omega arith;
      in_range = ltb-true _ _ t.4;
      stripes = t.5;
    }

-- a row has some element of data
pub data_count-some : (profile : Profile) (n : ℕ) → has_count profile n ≡ true → 0 < data_count profile n
data_count-some Single n h = omega arith
data_count-some Dup n h = omega arith
data_count-some Raid1 n h = omega arith
data_count-some Raid1c3 n h = omega arith
data_count-some Raid1c4 n h = omega arith
data_count-some Raid0 n h = omega (arith, leb-true 1 n h)
data_count-some Raid10 n h = let two = leb-true 2 n (and_parts _ _ h).0 in omega arith
data_count-some Raid5 n h = omega (arith, leb-true 2 n h)
data_count-some Raid6 n h = omega (arith, leb-true 3 n h)

-- without rows, a chunk is as long as each of its stripes
pub data_count-mirrored : (profile : Profile) (n : ℕ) → is_striped profile ≡ false → data_count profile n ≡ 1
data_count-mirrored Single n h = refl
data_count-mirrored Dup n h = refl
data_count-mirrored Raid1 n h = refl
data_count-mirrored Raid1c3 n h = refl
data_count-mirrored Raid1c4 n h = refl
data_count-mirrored Raid0 n h = absurd (true≢false h)
data_count-mirrored Raid10 n h = absurd (true≢false h)
data_count-mirrored Raid5 n h = absurd (true≢false h)
data_count-mirrored Raid6 n h = absurd (true≢false h)

-- a byte of a chunk of whole rows lies inside its stripe
pub inside_rows : (o d len : ℕ) → 0 < d → len % (d * 65536) ≡ 0 → o < len → o / 65536 / d * 65536 + o % 65536 < len / d
inside_rows o d len some whole below =
    let m = len / (d * 65536) in
    let split = div-add-mod' len (d * 65536) in
    let rows : len ≡ m * 65536 * d + 0 = omega arith in
    let stripe = ap (λ n. n / d) rows ∙ div-mul-add (m * 65536) d 0 some in
    let element : o / 65536 < m * d = div_below o 65536 (m * d) (omega arith) (omega arith) in
    let row : o / 65536 / d < m = div_below (o / 65536) d m some element in
    omega arith

-- and so does its whole element
pub element_inside : (o d len : ℕ) → 0 < d → len % (d * 65536) ≡ 0 → o < len → o / 65536 / d * 65536 + 65536 ≤ len / d
element_inside o d len some whole below =
    let m = len / (d * 65536) in
    let split = div-add-mod' len (d * 65536) in
    let rows : len ≡ m * 65536 * d + 0 = omega arith in
    let stripe = ap (λ n. n / d) rows ∙ div-mul-add (m * 65536) d 0 some in
    let element : o / 65536 < m * d = div_below o 65536 (m * d) (omega arith) (omega arith) in
    let row : o / 65536 / d < m = div_below (o / 65536) d m some element in
    omega arith

-- what a test of all elements says of one
pub at-list_all : {X : Type 0} (p : X → Bool) (xs : List X) (i : ℕ) (x : X) → list_all p xs ≡ true → slice_get xs i ≡ Some x → p x ≡ true
at-list_all p [] i x all found = cc
at-list_all p (y ∷ ys) zero x all found = let same : y ≡ x = cc in rw (← same) (and_parts _ _ all).0
at-list_all p (y ∷ ys) (suc i) x all found = at-list_all p ys i x (and_parts _ _ all).1 found

-- each stripe of a chunk ends below 2^64
pub stripe-fits : (chunk : Chunk) (i : ℕ) (stripe : Stripe) → IsChunk chunk → slice_get chunk.stripes i ≡ Some stripe → stripe.offset
    + stripe_length chunk < 2 ^ 64
stripe-fits chunk i stripe is found =
    ltb-true _ _ (and_parts _ _ (at-list_all (is_stripe (stripe_length chunk)) chunk.stripes i stripe (facts chunk is).stripes found)).1

-- the position of a byte in a profile with rows
pub position-rows : (chunk : Chunk) (o : ℕ) → IsChunk chunk → is_striped chunk.profile ≡ true → o < chunk.length
    → IsPosition chunk (record {
      row = o / 65536 / data_count chunk.profile (length chunk.stripes);
      index = o / 65536 % data_count chunk.profile (length chunk.stripes);
      rest = o % 65536;
    })
position-rows chunk o is striped below =
    let f = facts chunk is in
    let some = data_count-some chunk.profile (length chunk.stripes) f.count in
    record {
      index = mod_below (o / 65536) (data_count chunk.profile (length chunk.stripes)) some;
      inside = inside_rows o (data_count chunk.profile (length chunk.stripes)) chunk.length some (rw striped at f.whole) below;
    }

-- bytes within an element lie inside its stripe
pub reaches-rows : (chunk : Chunk) (o size : ℕ) → IsChunk chunk → is_striped chunk.profile ≡ true → o < chunk.length → o % 65536 + size ≤ 65536
    → LieInOnePiece chunk (record {
      row = o / 65536 / data_count chunk.profile (length chunk.stripes);
      index = o / 65536 % data_count chunk.profile (length chunk.stripes);
      rest = o % 65536;
    }) size
reaches-rows chunk o size is striped below within =
    let f = facts chunk is in
    let some = data_count-some chunk.profile (length chunk.stripes) f.count in
    let whole = element_inside o (data_count chunk.profile (length chunk.stripes)) chunk.length some (rw striped at f.whole) below in
    record { inside = omega (arith, whole, within); element = λ _. within }

-- a chunk of whole units holds its stripes' length as many times as a row has elements of data
pub quotient-stripe_length : (len d unit : ℕ) → 0 < d → 0 < unit → 0 < len → len % (d * unit) ≡ 0 → len / (len / d) ≡ d
quotient-stripe_length len d unit some filled any whole =
    let m = len / (d * unit) in
    let split = div-add-mod' len (d * unit) in
    let rows : len ≡ m * unit * d + 0 = omega arith in
    let stripe = ap (λ n. n / d) rows ∙ div-mul-add (m * unit) d 0 some in
    let turned : len ≡ d * (m * unit) + 0 = omega arith in
    let long : 0 < m * unit = pos_of_product len (m * unit) d any (omega arith) in
    ap (λ n. len / n) stripe ∙ ap (λ n. n / (m * unit)) turned ∙ div-mul-add d (m * unit) 0 long
  where
    -- the first factor of a positive product is positive
    pos_of_product : (n a b : ℕ) → 0 < n → n ≡ a * b → 0 < a
    pos_of_product n zero b any e = omega arith
    pos_of_product n (suc a) b any e = omega arith

-- the length of a chunk is a multiple of its elements of data, each of some unit
unit-whole : (chunk : Chunk) → IsChunk chunk → (b : Bool) → is_striped chunk.profile ≡ b
    → (unit : ℕ) × (0 < unit) × (chunk.length % (data_count chunk.profile (length chunk.stripes) * unit) ≡ 0)
unit-whole chunk is true striped = (65536, omega arith, rw striped at (facts chunk is).whole)
unit-whole chunk is false mirrored =
    let whole = rw mirrored at (facts chunk is).whole in
    (4096, omega arith, rw (data_count-mirrored chunk.profile (length chunk.stripes) mirrored) whole)

-- the number of elements of data in a row, by the lengths alone
pub data_count-quotient : (chunk : Chunk) → IsChunk chunk → chunk.length / stripe_length chunk ≡ data_count chunk.profile (length chunk.stripes)
data_count-quotient chunk is =
    let f = facts chunk is in
    let u = unit-whole chunk is (is_striped chunk.profile) refl in
    quotient-stripe_length chunk.length (data_count chunk.profile (length chunk.stripes)) u.0
    (data_count-some chunk.profile (length chunk.stripes) f.count) u.1 f.some u.2

-- each stripe has some byte
pub stripe_length-some : (chunk : Chunk) → IsChunk chunk → 0 < stripe_length chunk
stripe_length-some chunk is = by_rows (is_striped chunk.profile) refl
  where
    -- each stripe has some byte, with rows or without
    by_rows : (b : Bool) → is_striped chunk.profile ≡ b → 0 < stripe_length chunk
    by_rows true striped =
        let f = facts chunk is in
        let d = data_count chunk.profile (length chunk.stripes) in
        omega (arith, inside_rows 0 d chunk.length (data_count-some chunk.profile (length chunk.stripes) f.count) (rw striped at f.whole) f.some)
    by_rows false mirrored =
        let f = facts chunk is in
        rw (data_count-mirrored chunk.profile (length chunk.stripes) mirrored) (omega (arith, f.some))
