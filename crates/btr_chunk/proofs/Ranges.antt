-- What the last range before the end of a stripe says of all ranges.
use Rattle.std.proofs.Common.{◌≡◌, ℕ, ◌+◌, ◌<◌, ◌≤◌, true, false, eqb, nat_lt, Option, Some, IsSome, ◌⊎◌, inl, inr, sym, ap, ◌∙◌, refl, arith}
use Rattle.std.proofs.lemmas.Bool.{and_parts, and_from, lt-ltb, ltb-true, eq-eqb, eqb-true, cases_order, cases_lt, false≢true, true≢false, false_from_ne_true}
use Rattle.std.specs.Ordering.{is_lt}
use Rattle.std.specs.declared.cmp.Ordering.TheVariants.{Less}
use Rattle.btr_chunk.specs.declared.place.StripePlace.{StripePlace}
use Rattle.btr_chunk.specs.declared.stripe.Stripe.{Stripe}
use Rattle.btr_chunk.specs.Extents.{place_cmp, ranges_meet, meets_range, SomeMeets, NoneMeets, IsSpaced}
use Rattle.btr_chunk.proofs.Places.{nat_cmp-less, nat_cmp-equal, nat_cmp-greater, place-equal}

-- a place on the same device comes before another one by its offset
pub place_cmp-less : (a b : StripePlace) → a.devid ≡ b.devid → a.offset < b.offset → place_cmp a b ≡ Less
place_cmp-less a b device below = rw (nat_cmp-equal _ _ device, nat_cmp-less _ _ below) refl

-- a place that comes before another one is on an earlier device, or before it on the same one
pub before-place_cmp : (a b : StripePlace) → place_cmp a b ≡ Less → (a.devid < b.devid) ⊎ ((a.devid ≡ b.devid) × (a.offset < b.offset))
before-place_cmp a b less =
    elim (cases_order a.devid b.devid) [
      | inl device ↦
          elim (cases_order a.offset b.offset) [
            | inl offset ↦ let e = rw (nat_cmp-equal _ _ device, nat_cmp-equal _ _ offset) at less in absurd (false≢true (ap is_lt e))
            | inr (inl below) ↦ inr (device, below)
            | inr (inr above) ↦ let e = rw (nat_cmp-equal _ _ device, nat_cmp-greater _ _ above) at less in absurd (false≢true (ap is_lt e))
          ]
      | inr (inl below) ↦ inl below
      | inr (inr above) ↦ let e = rw (nat_cmp-greater _ _ above) at less in absurd (false≢true (ap is_lt e))
    ]

-- what a stripe shares with a range that it meets
pub meeting : (len : ℕ) (s : Stripe) (p : StripePlace) (n : ℕ) → meets_range len s p n ≡ true → (s.devid ≡ p.devid) × (s.offset < p.offset + n)
    × (p.offset < s.offset + len)
meeting len s p n meets =
    let parts = and_parts (eqb s.devid p.devid) (ranges_meet s.offset len p.offset n) meets in
    let both = and_parts (nat_lt s.offset (p.offset + n)) (nat_lt p.offset (s.offset + len)) parts.1 in
    (eqb-true s.devid p.devid parts.0, ltb-true s.offset (p.offset + n) both.0, ltb-true p.offset (s.offset + len) both.1)

-- the last range before the stripe's end reaches into it
pub SomeMeets-last : (f : StripePlace → Option ℕ) (len : ℕ) (s : Stripe) (p : StripePlace) (n : ℕ) → f p ≡ Some n
    → place_cmp p (record { devid = s.devid; offset = s.offset + len }) ≡ Less → p.devid ≡ s.devid → s.offset < p.offset + n → SomeMeets f len s
SomeMeets-last f len s p n there less device reaches =
    let before : p.offset < s.offset + len =
    elim (before-place_cmp p _ less) [ inl earlier ↦ absurd (omega arith) | inr same ↦ same.1 ] in
    record {
      place = p;
      taken = n;
      there = there;
      meets = and_from (eqb s.devid p.devid) (ranges_meet s.offset len p.offset n) (eq-eqb s.devid p.devid (sym device))
          (and_from (nat_lt s.offset (p.offset + n)) (nat_lt p.offset (s.offset + len)) (lt-ltb _ _ reaches) (lt-ltb _ _ before));
    }

-- the last range before the stripe's end doesn't reach into it, and so no range does
pub NoneMeets-last : (f : StripePlace → Option ℕ) (len : ℕ) (s : Stripe) (p : StripePlace) (n : ℕ) → IsSpaced f → f p ≡ Some n
    → place_cmp p (record { devid = s.devid; offset = s.offset + len }) ≡ Less
    → ((q : StripePlace) → place_cmp q (record { devid = s.devid; offset = s.offset + len }) ≡ Less → IsSome (f q) → is_lt (place_cmp p q) ≡ false)
    → (p.devid ≡ s.devid → p.offset + n ≤ s.offset) → NoneMeets f len s
NoneMeets-last f len s p n spaced there less last ends = λ q m at.
    false_from_ne_true (meets_range len s q m) (λ meets.
    let shared = meeting len s q m meets in
    let not_past = last q (place_cmp-less q _ (sym shared.0) shared.2) (rw at refl) in
    let apart : (p.devid ≡ q.devid) × (q.offset ≤ p.offset) =
    elim (before-place_cmp p _ less) [
      | inl earlier ↦ absurd (true≢false (sym (ap is_lt (earlier_device p q (omega arith))) ∙ not_past))
      | inr same ↦
          elim (cases_lt p.offset q.offset) [
            | inl below ↦ absurd (true≢false (sym (ap is_lt (place_cmp-less p q (omega arith) below)) ∙ not_past))
            | inr above ↦ (omega arith, above)
          ]
    ] in
    let reach = ends (omega arith) in
    elim (cases_lt q.offset p.offset) [
      | inl below ↦ let free = spaced q p m n at there (sym apart.0) below in omega arith
      | inr above ↦
          let one = place-equal q p (sym apart.0) (omega arith) in
          let same : Some m ≡ Some n = sym at ∙ ap f one ∙ there in
          let long : m ≡ n = cc in
          omega arith
    ])
  where
    -- a place on an earlier device comes before
    earlier_device : (a b : StripePlace) → a.devid < b.devid → place_cmp a b ≡ Less
    earlier_device a b below = rw (nat_cmp-less _ _ below) refl
