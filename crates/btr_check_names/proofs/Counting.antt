-- Sums and tests over lists, and over the parts of them that pass a test.
use Rattle.std.proofs.Common.{◌≡◌, ℕ, zero, suc, ◌+◌, ◌<◌, Bool, true, false, cond, not, ◌==◌, ◌||◌, List, [], ◌∷◌, filter, All, sum_by}
use Rattle.std.proofs.Common.{refl, sym, ap, ◌∙◌, subst, true≢false, ne_eqb, arith}
use Rattle.std.proofs.lemmas.List.Elements.{All-head, All-tail, All-weaker, All-from_recursion, recursion_from_All, filter_passes}
use Rattle.std.proofs.lemmas.List.Filters.{sum_by-filter_both}
use Rattle.std.proofs.lemmas.List.Sums.{sum_by-cons}
use Rattle.std.specs.List.{AllByRecursion, list_any}

-- where an "or" fails, two_hold of its sides do
pub neither : (a b : Bool) → (a || b) ≡ false → (a ≡ false) × (b ≡ false)
neither true b h = absurd (true≢false h)
neither false b h = (refl, h)

-- a test whose opposite fails holds
pub holds_not : (b : Bool) → not b ≡ false → b ≡ true
holds_not true h = refl
holds_not false h = absurd (true≢false h)

-- a test whose opposite holds fails
pub is_not : (b : Bool) → not b ≡ true → b ≡ false
is_not true h = absurd (true≢false (sym h))
is_not false h = refl

-- an "or" holds where its right side does
pub or_right : (a b : Bool) → b ≡ true → (a || b) ≡ true
or_right true b h = refl
or_right false b h = h

-- an "or" holds where its left side does
pub or_left : (a b : Bool) → a ≡ true → (a || b) ≡ true
or_left a b h = ap (λ k. k || b) h

-- a number that passes a test isn't one that fails it
pub apart : (own : ℕ → Bool) (a n : ℕ) → own a ≡ false → own n ≡ true → (a == n) ≡ false
apart own a n aside is = ne_eqb a n (λ same. true≢false (sym is ∙ sym (ap own same) ∙ aside))

-- where a sum is more than 0, so is what some element adds to it
found_first : (n m : ℕ) (b c : Bool) → (0 < n → b ≡ true) → (0 < m → c ≡ true) → 0 < n + m → (b || c) ≡ true
found_first zero m b c first rest some = or_right b c (rest (omega arith))
found_first (suc n) m b c first rest some = or_left b c (first (omega arith))

module _ {X : Type 0} where
  -- where a sum is above 0 and only what passes a test adds to it, something passes the test
  pub found_by : (f : X → ℕ) (t : X → Bool) → ((x : X) → 0 < f x → t x ≡ true) → (xs : List X) → 0 < sum_by f xs → list_any t xs ≡ true
  found_by f t is [] some = absurd (omega arith)
  found_by f t is (x ∷ xs) some =
      found_first (f x) (sum_by f xs) (t x) (list_any t xs) (is x) (found_by f t is xs) (subst (λ n. 0 < n) (sum_by-cons f x xs) some)

  -- sums of what is the same at each
  pub sum_same : (f g : X → ℕ) (xs : List X) → All (λ x. f x ≡ g x) xs → sum_by f xs ≡ sum_by g xs
  sum_same f g [] all = refl
  sum_same f g (x ∷ xs) all =
      sum_by-cons f x xs ∙ (λ i. All-head (λ y. f y ≡ g y) x xs all i + sum_same f g xs (All-tail (λ y. f y ≡ g y) x xs all) i)
      ∙ sym (sum_by-cons g x xs)

  -- where each thing adds nothing the sum is 0
  pub sum_none : (f : X → ℕ) (xs : List X) → All (λ x. f x ≡ 0) xs → sum_by f xs ≡ 0
  sum_none f [] all = refl
  sum_none f (x ∷ xs) all =
      sum_by-cons f x xs ∙ (λ i. All-head (λ y. f y ≡ 0) x xs all i + sum_none f xs (All-tail (λ y. f y ≡ 0) x xs all) i)

  module _ (q : X → Bool) where
    -- of what passes
    pub sum_part : (f g : X → ℕ) → ((x : X) → q x ≡ true → f x ≡ g x) → (xs : List X) → sum_by f (filter q xs) ≡ sum_by g (filter q xs)
    sum_part f g is xs = sum_same f g (filter q xs) (All-weaker (λ x. q x ≡ true) (λ x. f x ≡ g x) is (filter q xs) (filter_passes q xs))

    -- where what passes a test adds nothing, the sum over it is 0
    pub sum_nothing : (f : X → ℕ) → ((x : X) → q x ≡ true → f x ≡ 0) → (xs : List X) → sum_by f (filter q xs) ≡ 0
    sum_nothing f is xs = sum_none f (filter q xs) (All-weaker (λ x. q x ≡ true) (λ x. f x ≡ 0) is (filter q xs) (filter_passes q xs))

    -- a sum is that of what passes and that of the rest
    pub sum_split : (f g h : X → ℕ) → ((x : X) → q x ≡ true → f x ≡ g x) → ((x : X) → not (q x) ≡ true → f x ≡ h x) → (xs : List X)
        → sum_by f xs ≡ sum_by g (filter q xs) + sum_by h (filter (λ x. not (q x)) xs)
    sum_split f g h own other xs =
        sym (sum_by-filter_both q (λ x. not (q x)) (λ x. refl) f xs)
        ∙ (λ i. sum_part f g own xs i + sum_same f h (filter (λ x. not (q x)) xs) (All-weaker (λ x. not (q x) ≡ true) (λ x. f x ≡ h x) other
        (filter (λ x. not (q x)) xs) (filter_passes (λ x. not (q x)) xs)) i)

    -- what doesn't pass adds nothing
    pub sum_own : (f : X → ℕ) → ((x : X) → q x ≡ false → f x ≡ 0) → (xs : List X) → sum_by f xs ≡ sum_by f (filter q xs)
    sum_own f is xs =
        let rest : sum_by f (filter (λ x. not (q x)) xs) ≡ 0 = sum_none f (filter (λ x. not (q x)) xs)
        (All-weaker (λ x. not (q x) ≡ true) (λ x. f x ≡ 0) (λ x h. is x (is_not (q x) h))
        (filter (λ x. not (q x)) xs) (filter_passes (λ x. not (q x)) xs)) in
        omega (arith, sum_by-filter_both q (λ x. not (q x)) (λ x. refl) f xs, rest)

    -- one thing more before the others: where it is left out, the test fails on it
    any_first : (t : X → Bool) (x : X) (xs : List X) (b : Bool) → (b ≡ false → t x ≡ false) → list_any t xs ≡ list_any t (filter q xs)
        → (t x || list_any t xs) ≡ list_any t (cond b (x ∷ filter q xs) (filter q xs))
    any_first t x xs true is rest = ap (λ b. t x || b) rest
    any_first t x xs false is rest = ap (λ b. b || list_any t xs) (is refl) ∙ rest

    -- a test that fails on what doesn't pass
    pub any_own : (t : X → Bool) → ((x : X) → q x ≡ false → t x ≡ false) → (xs : List X) → list_any t xs ≡ list_any t (filter q xs)
    any_own t is [] = refl
    any_own t is (x ∷ xs) = any_first t x xs (q x) (is x) (any_own t is xs)

    -- what holds of what passes and of the rest holds of all
    module _ (P : X → Type 0) where
      -- what holds of the first thing, whether it passes or not, and of those behind it
      first_of : (b : Bool) (x : X) (us vs : List X) → AllByRecursion P (cond b (x ∷ us) us) → AllByRecursion P (cond (not b) (x ∷ vs) vs)
          → P x × (AllByRecursion P us × AllByRecursion P vs)
      first_of true x us vs own other = (own.0, (own.1, other))
      first_of false x us vs own other = (other.0, (own, other.1))

      all_of : (xs : List X) → AllByRecursion P (filter q xs) → AllByRecursion P (filter (λ x. not (q x)) xs) → AllByRecursion P xs
      all_of [] own other = own
      all_of (x ∷ xs) own other =
          let it = first_of (q x) x (filter q xs) (filter (λ y. not (q y)) xs) own other in
          (it.0, all_of xs it.1.0 it.1.1)

      -- what holds of all that passes a test and of all that fails it holds of all
      pub All-both : (xs : List X) → All P (filter q xs) → All P (filter (λ x. not (q x)) xs) → All P xs
      All-both xs own other = All-from_recursion P xs (all_of xs (recursion_from_All P (filter q xs) own)
          (recursion_from_All P (filter (λ x. not (q x)) xs) other))

    -- what passes and has one thing has another
    pub All-part : (P R : X → Type 0) → ((x : X) → q x ≡ true → P x → R x) → (xs : List X) → All P (filter q xs) → All R (filter q xs)
    All-part P R is xs all = λ k d below. is _ (filter_passes q xs k d below) (all k d below)
