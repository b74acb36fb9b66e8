-- The order of places, and ranges of devices that meet.
use Rattle.std.proofs.Common.{◌≡◌, ℕ, ◌+◌, ◌<◌, ◌≤◌, Bool, true, false, eqb, nat_lt, cond, Option, Some, None, List, ◌∷◌, Result, OnErr, sym, ap, ◌∙◌, refl}
use Rattle.std.proofs.Common.{inl, inr, suc, arith}
use Rattle.std.proofs.lemmas.Bool.{and_from, or_parts, lt-ltb, le-ltb, eq-eqb, ne_eqb, cases_order, false≢true, true≢false, false_from_ne_true, cond-true}
use Rattle.std.proofs.lemmas.Bool.{cond-false}
use Rattle.std.proofs.lemmas.Result.{on_err_weaker}
use Rattle.std.specs.Ordering.{nat_cmp, is_eq, is_gt}
use Rattle.std.specs.declared.cmp.Ordering.TheVariants.{Less, Equal, Greater}
use Rattle.btr_chunk.specs.declared.place.StripePlace.{StripePlace}
use Rattle.btr_chunk.specs.declared.stripe.Stripe.{Stripe}
use Rattle.btr_chunk.specs.Extents.{place_cmp, ranges_meet, meets_range, AreFree}
use Rattle.btr_chunk.specs.Table.{stripes_meet, some_meet}
use Rattle.btr_chunk.proofs.Searches.{fails-list_any}

-- what `nat_cmp` answers
pub nat_cmp-less : (a b : ℕ) → a < b → nat_cmp a b ≡ Less
nat_cmp-less a b h = rw (lt-ltb a b h) refl

-- equal numbers compare as equal
pub nat_cmp-equal : (a b : ℕ) → a ≡ b → nat_cmp a b ≡ Equal
nat_cmp-equal a b h = rw (le-ltb a b (omega arith), eq-eqb a b h) refl

-- a number compares as greater than one below it
pub nat_cmp-greater : (a b : ℕ) → b < a → nat_cmp a b ≡ Greater
nat_cmp-greater a b h = rw (le-ltb a b (omega arith), ne_eqb a b (λ e. omega arith)) refl

-- a number does not compare as greater than one that is not below it
pub not_greater : (a b : ℕ) → a ≤ b → is_gt (nat_cmp a b) ≡ false
not_greater a b h =
    elim (cases_order a b) [
      | inl same ↦ rw (nat_cmp-equal a b same) refl
      | inr (inl below) ↦ rw (nat_cmp-less a b below) refl
      | inr (inr above) ↦ absurd (omega arith)
    ]

-- places that compare as equal are one
pub place_cmp-same : (a b : StripePlace) → is_eq (place_cmp a b) ≡ true → (a.devid ≡ b.devid) × (a.offset ≡ b.offset)
place_cmp-same a b same =
    elim (cases_order a.devid b.devid) [
      | inl device ↦
          elim (cases_order a.offset b.offset) [
            | inl offset ↦ (device, offset)
            | inr (inl below) ↦ absurd (false≢true (rw (nat_cmp-equal _ _ device, nat_cmp-less _ _ below) at same))
            | inr (inr above) ↦ absurd (false≢true (rw (nat_cmp-equal _ _ device, nat_cmp-greater _ _ above) at same))
          ]
      | inr (inl below) ↦ absurd (false≢true (rw (nat_cmp-less _ _ below) at same))
      | inr (inr above) ↦ absurd (false≢true (rw (nat_cmp-greater _ _ above) at same))
    ]

-- a place is its device and its offset
pub place-equal : (a b : StripePlace) → a.devid ≡ b.devid → a.offset ≡ b.offset → a ≡ b
place-equal a b device offset =
    let first : a ≡ record { devid = b.devid; offset = a.offset } = ap (λ d. record { devid = d; offset = a.offset }) device in
    let second : record { devid = b.devid; offset = a.offset } ≡ b = ap (λ o. record { devid = b.devid; offset = o }) offset in
    first ∙ second

-- ranges that begin at one number meet, where both are not empty
pub ranges_meet-start : (a len b other : ℕ) → 0 < len → 0 < other → a ≡ b → ranges_meet a len b other ≡ true
ranges_meet-start a len b other some filled same =
    and_from (nat_lt a (b + other)) (nat_lt b (a + len)) (lt-ltb a (b + other) (omega arith)) (lt-ltb b (a + len) (omega arith))

-- a stripe meets a range that begins where it does
pub meets_range-start : (len : ℕ) (s : Stripe) (place : StripePlace) (taken : ℕ) → 0 < len → 0 < taken → s.devid ≡ place.devid → s.offset ≡ place.offset
    → meets_range len s place taken ≡ true
meets_range-start len s place taken some filled device offset =
    and_from (eqb s.devid place.devid) (ranges_meet s.offset len place.offset taken) (eq-eqb s.devid place.devid device)
    (ranges_meet-start s.offset len place.offset taken some filled offset)

-- stripes that don't meet begin at places that differ
pub place_cmp-apart : (len : ℕ) (a : Stripe) (other : ℕ) (b : Stripe) → 0 < len → 0 < other → stripes_meet len a other b ≡ false
    → is_eq (place_cmp (record { devid = a.devid; offset = a.offset }) (record { devid = b.devid; offset = b.offset })) ≡ false
place_cmp-apart len a other b some filled apart =
    let p : StripePlace = record { devid = a.devid; offset = a.offset } in
    let q : StripePlace = record { devid = b.devid; offset = b.offset } in
    false_from_ne_true (is_eq (place_cmp p q)) (λ same.
    let one = place_cmp-same p q same in
    true≢false (sym (meets_range-start len a q other some filled one.0 one.1) ∙ apart))

-- once the first of stripes that don't meet is entered, the others are still free
pub AreFree-others : (len : ℕ) (first : Stripe) (others : List Stripe) (f g : StripePlace → Option ℕ) → 0 < len → some_meet len (first ∷ others) ≡ false
    → AreFree f (first ∷ others) → ((q : StripePlace) → g q ≡ cond (is_eq (place_cmp (record { devid = first.devid; offset = first.offset }) q)) (Some len)
    (f q))
    → AreFree g others
AreFree-others len first others f g some spread free entered = λ i s there.
    let apart = fails-list_any (stripes_meet len first len) others (or_parts _ _ spread).0 i s there in
    entered _ ∙ cond-false _ (Some len) _ (place_cmp-apart len first len s some some apart) ∙ free (suc i) s there

-- a range that is entered and taken out again leaves the ranges as they were
pub undone : {T E : Type 0} (r : Result T E) (p : StripePlace) (len : ℕ) (f g after h : StripePlace → Option ℕ) → f p ≡ None
    → ((q : StripePlace) → g q ≡ cond (is_eq (place_cmp p q)) (Some len) (f q))
    → OnErr r ((q : StripePlace) → after q ≡ g q)
    → ((q : StripePlace) → h q ≡ cond (is_eq (place_cmp p q)) None (after q))
    → OnErr r ((q : StripePlace) → h q ≡ f q)
undone r p len f g after h free entered failed taken =
    on_err_weaker r (λ same q. by_test q (same q) (is_eq (place_cmp p q)) refl) failed
  where
    -- at each place the ranges are as they were, whether it is the one that was entered or not
    by_test : (q : StripePlace) → after q ≡ g q → (b : Bool) → is_eq (place_cmp p q) ≡ b → h q ≡ f q
    by_test q same true is =
        let one = place_cmp-same p q is in
        let here = place-equal p q one.0 one.1 in
        taken q ∙ cond-true _ None _ is ∙ sym free ∙ ap f here
    by_test q same false is = taken q ∙ cond-false _ None _ is ∙ same ∙ entered q ∙ cond-false _ (Some len) _ is
