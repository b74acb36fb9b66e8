-- Chunks that share an address or a byte of a device.
use Rattle.std.proofs.Common.{◌≡◌, ℕ, zero, suc, ◌+◌, ◌<◌, true, false, eqb, nat_lt, List, [], ◌∷◌, Some, slice_get, sym, ◌∙◌, arith}
use Rattle.std.proofs.lemmas.Bool.{and_parts, and_from, or_parts, or_from, or_right, lt-ltb, eq-eqb, true≢false, false_from_ne_true}
use Rattle.std.specs.List.{list_any}
use Rattle.btr_chunk.specs.declared.stripe.Stripe.{Stripe}
use Rattle.btr_chunk.specs.declared.chunk.Chunk.{Chunk}
use Rattle.btr_chunk.specs.Chunk.{stripe_length}
use Rattle.btr_chunk.specs.Extents.{ranges_meet}
use Rattle.btr_chunk.specs.Table.{stripes_meet, chunks_meet, some_meet}
use Rattle.btr_chunk.proofs.Searches.{fails-list_any, list_any-true, list_any-false}
use Rattle.btr_chunk.proofs.Ranges.{meeting}

-- two chunks share no address and no byte, fact by fact
pub record AreApart (a b : Chunk) : Type 0 where
  pub addresses : ranges_meet a.start a.length b.start b.length ≡ false
  pub bytes : (i j : ℕ) (s t : Stripe) → slice_get a.stripes i ≡ Some s → slice_get b.stripes j ≡ Some t
      → stripes_meet (stripe_length a) s (stripe_length b) t ≡ false

-- chunks that do not meet share no address, and no two of their stripes a byte
pub apart-chunks_meet : (a b : Chunk) → chunks_meet a b ≡ false → AreApart a b
apart-chunks_meet a b apart =
    let parts = or_parts (ranges_meet a.start a.length b.start b.length)
    (list_any (λ s. list_any (stripes_meet (stripe_length a) s (stripe_length b)) b.stripes) a.stripes) apart in
    record {
      addresses = parts.0;
      bytes = λ i j s t here there.
          fails-list_any (stripes_meet (stripe_length a) s (stripe_length b)) b.stripes
          (fails-list_any (λ s. list_any (stripes_meet (stripe_length a) s (stripe_length b)) b.stripes) a.stripes parts.1 i s here) j t there;
    }

-- chunks that share no address and whose stripes share no byte do not meet
pub chunks_meet-apart : (a b : Chunk) → AreApart a b → chunks_meet a b ≡ false
chunks_meet-apart a b apart =
    or_from (ranges_meet a.start a.length b.start b.length) (list_any (λ s. list_any (stripes_meet (stripe_length a) s (stripe_length b)) b.stripes) a.stripes)
    apart.addresses
    (list_any-false (λ s. list_any (stripes_meet (stripe_length a) s (stripe_length b)) b.stripes) a.stripes (λ i s here.
    list_any-false (stripes_meet (stripe_length a) s (stripe_length b)) b.stripes (λ j t there. apart.bytes i j s t here there)))

-- stripes of two chunks that meet make the chunks meet
pub chunks_meet-stripes : (a b : Chunk) (i j : ℕ) (s t : Stripe) → slice_get a.stripes i ≡ Some s → slice_get b.stripes j ≡ Some t
    → stripes_meet (stripe_length a) s (stripe_length b) t ≡ true → chunks_meet a b ≡ true
chunks_meet-stripes a b i j s t here there meets =
    or_right (ranges_meet a.start a.length b.start b.length) (list_any (λ s. list_any (stripes_meet (stripe_length a) s (stripe_length b)) b.stripes) a.stripes)
    (list_any-true (λ s. list_any (stripes_meet (stripe_length a) s (stripe_length b)) b.stripes) a.stripes i s here
    (list_any-true (stripes_meet (stripe_length a) s (stripe_length b)) b.stripes j t there meets))

-- where one range does not meet another, the other does not meet it
ranges_meet-turned : (a len b other : ℕ) → ranges_meet a len b other ≡ false → ranges_meet b other a len ≡ false
ranges_meet-turned a len b other apart =
    false_from_ne_true (ranges_meet b other a len) (λ meets.
    let both = and_parts (nat_lt b (a + len)) (nat_lt a (b + other)) meets in
    true≢false (sym (and_from (nat_lt a (b + other)) (nat_lt b (a + len)) both.1 both.0) ∙ apart))

-- where one stripe does not meet another, the other does not meet it
pub stripes_meet-turned : (len : ℕ) (s : Stripe) (other : ℕ) (t : Stripe) → stripes_meet len s other t ≡ false → stripes_meet other t len s ≡ false
stripes_meet-turned len s other t apart =
    false_from_ne_true (stripes_meet other t len s) (λ meets.
    let m = meeting other t (record { devid = s.devid; offset = s.offset }) len meets in
    true≢false (sym (and_from (eqb s.devid t.devid) (ranges_meet s.offset len t.offset other) (eq-eqb s.devid t.devid (sym m.0))
    (and_from (nat_lt s.offset (t.offset + other)) (nat_lt t.offset (s.offset + len)) (lt-ltb _ _ m.2) (lt-ltb _ _ m.1))) ∙ apart))

-- where one chunk does not meet another, the other does not meet it
pub chunks_meet-turned : (a b : Chunk) → chunks_meet a b ≡ false → chunks_meet b a ≡ false
chunks_meet-turned a b apart =
    let facts = apart-chunks_meet a b apart in
    chunks_meet-apart b a (record {
      addresses = ranges_meet-turned a.start a.length b.start b.length facts.addresses;
      bytes = λ i j s t here there. stripes_meet-turned (stripe_length a) t (stripe_length b) s (facts.bytes j i t s there here);
    })

-- two stripes of a list that don't meet
pub some_meet-apart : (len : ℕ) (stripes : List Stripe) → some_meet len stripes ≡ false → (i j : ℕ) (s t : Stripe) → i < j
    → slice_get stripes i ≡ Some s → slice_get stripes j ≡ Some t → stripes_meet len s len t ≡ false
some_meet-apart len [] spread i j s t below here there = cc
some_meet-apart len (x ∷ xs) spread zero zero s t below here there = absurd (omega arith)
some_meet-apart len (x ∷ xs) spread zero (suc j) s t below here there =
    let same : x ≡ s = cc in
    rw (← same) (fails-list_any (stripes_meet len x len) xs (or_parts (list_any (stripes_meet len x len) xs) (some_meet len xs) spread).0 j t there)
some_meet-apart len (x ∷ xs) spread (suc i) zero s t below here there = absurd (omega arith)
some_meet-apart len (x ∷ xs) spread (suc i) (suc j) s t below here there =
    some_meet-apart len xs (or_parts (list_any (stripes_meet len x len) xs) (some_meet len xs) spread).1 i j s t (omega arith) here there
