-- Sums over lists that are taken apart.
use Rattle.std.proofs.Common.{◌≡◌, ◌≢◌, ℕ, zero, suc, ◌+◌, Bool, true, false, cond, List, [], ◌∷◌, map, length, slice_get, Some, refl, sym, ap, ◌∙◌, inl, inr}
use Rattle.std.proofs.Common.{arith, zero-add}
use Rattle.btr_scrub.proofs.Common.{In, false≢true, filter, flat_map, same_Some, sum_by, sum_by-cons}
use Rattle.std.proofs.lemmas.List.Sums.{sum_by-append}
use Rattle.btr_scrub.proofs.AcrossChunks.{sum_same}
use Rattle.btr_scrub.proofs.Grouping.{filter_all}
use Rattle.btr_scrub.proofs.Lists.{at_in}

-- a sum of nothing is nothing
pub sum_zero : {X : Type 0} (f : X → ℕ) (xs : List X) → ((x : X) → In x xs → f x ≡ 0) → sum_by f xs ≡ 0
sum_zero f [] h = refl
sum_zero f (x ∷ xs) h = sum_by-cons f x xs ∙ omega (arith, h x (inl refl), sum_zero f xs (λ y i. h y (inr i)))

-- a sum of ones is how many there are
pub sum_one : {X : Type 0} (xs : List X) → sum_by (λ (x : X). 1) xs ≡ length xs
sum_one [] = refl
sum_one (x ∷ xs) = sum_by-cons (λ y. 1) x xs ∙ omega (arith, sum_one xs)

-- a sum of sums is the sum of both
pub sum_add : {X : Type 0} (f g : X → ℕ) (xs : List X) → sum_by (λ x. f x + g x) xs ≡ sum_by f xs + sum_by g xs
sum_add f g [] = refl
sum_add f g (x ∷ xs) = sum_by-cons (λ y. f y + g y) x xs ∙ omega (arith, sum_add f g xs, sum_by-cons f x xs, sum_by-cons g x xs)

-- a sum over what is mapped is one over the members
pub sum_map : {X Y : Type 0} (f : Y → ℕ) (g : X → Y) (xs : List X) → sum_by f (map g xs) ≡ sum_by (λ x. f (g x)) xs
sum_map f g [] = refl
sum_map f g (x ∷ xs) = sum_by-cons f (g x) (map g xs) ∙ ap (λ n. f (g x) + n) (sum_map f g xs) ∙ sym (sum_by-cons (λ y. f (g y)) x xs)

-- a sum over all is the sum of each member's
pub sum_flat : {X Y : Type 0} (f : Y → ℕ) (g : X → List Y) (xs : List X) → sum_by f (flat_map g xs) ≡ sum_by (λ x. sum_by f (g x)) xs
sum_flat f g [] = refl
sum_flat f g (x ∷ xs) = sum_by-append f (g x) (flat_map g xs) ∙ ap (λ n. sum_by f (g x) + n) (sum_flat f g xs) ∙ sym (sum_by-cons (λ y. sum_by f (g y)) x xs)

-- a sum over those that pass counts nothing for the others
pub sum_filter : {X : Type 0} (f : X → ℕ) (p : X → Bool) (xs : List X) → sum_by f (filter p xs) ≡ sum_by (λ x. cond (p x) (f x) 0) xs
sum_filter f p [] = refl
sum_filter f p (x ∷ xs) = by (p x) refl (sum_filter f p xs)
  where
    by : (b : Bool) → p x ≡ b → sum_by f (filter p xs) ≡ sum_by (λ y. cond (p y) (f y) 0) xs → sum_by f (cond b (x ∷ filter p xs) (filter p xs))
        ≡ sum_by (λ y. cond (p y) (f y) 0) (x ∷ xs)
    by true e rest = sum_by-cons f x (filter p xs) ∙ ap (λ n. f x + n) rest ∙ ap (λ b. cond b (f x) 0 + sum_by (λ y. cond (p y) (f y) 0) xs) (sym e)
        ∙ sym (sum_by-cons (λ y. cond (p y) (f y) 0) x xs)
    by false e rest = rest ∙ sym (zero-add (sum_by (λ y. cond (p y) (f y) 0) xs))
        ∙ ap (λ b. cond b (f x) 0 + sum_by (λ y. cond (p y) (f y) 0) xs) (sym e) ∙ sym (sum_by-cons (λ y. cond (p y) (f y) 0) x xs)

-- a sum of sums, the other way
sum_swap : {K X : Type 0} (g : K → X → ℕ) (ks : List K) (xs : List X) → sum_by (λ k. sum_by (g k) xs) ks ≡ sum_by (λ x. sum_by (λ k. g k x) ks) xs
sum_swap g [] xs = sym (sum_zero (λ x. sum_by (λ k. g k x) []) xs (λ x i. refl))
sum_swap g (k ∷ ks) xs =
    sum_by-cons (λ k. sum_by (g k) xs) k ks ∙ ap (λ n. sum_by (g k) xs + n) (sum_swap g ks xs) ∙ sym (sum_add (g k) (λ x. sum_by (λ k. g k x) ks) xs)
    ∙ sum_same (λ x. g k x + sum_by (λ k. g k x) ks) (λ x. sum_by (λ k. g k x) (k ∷ ks)) xs (λ x i. sym (sum_by-cons (λ k. g k x) k ks))

-- a part has what passes its test; each member of a list passes one test, or none
abbrev pub IsOnce : {K : Type 0} → (K → Bool) → List K → Type 0
IsOnce {K} p ks = (i : ℕ) × ((k : K) × (slice_get ks i ≡ Some k) × (p k ≡ true) × ((j : ℕ) (other : K) → j ≢ i → slice_get ks j ≡ Some other → p other ≡ false))

-- where one member of a list alone passes a test, what is added for those that pass is added once
once_sum : {K : Type 0} (n : ℕ) (p : K → Bool) (ks : List K) (i : ℕ) (k : K) → slice_get ks i ≡ Some k → p k ≡ true
    → ((j : ℕ) (other : K) → j ≢ i → slice_get ks j ≡ Some other → p other ≡ false) → sum_by (λ k. cond (p k) n 0) ks ≡ n
once_sum n p [] i k at is others = cc
once_sum n p (l ∷ ks) zero k at is others =
    let same : l ≡ k = same_Some l k at in
    sum_by-cons (λ k. cond (p k) n 0) l ks ∙ omega (
      arith,
      ap (λ b. cond b n 0) (ap p same ∙ is),
      sum_zero (λ k. cond (p k) n 0) ks (λ x j. let r = at_in x ks j in ap (λ b. cond b n 0) (others (suc r.0) x (λ e. omega (arith, e)) r.1)),
    )
once_sum n p (l ∷ ks) (suc i) k at is others =
    sum_by-cons (λ k. cond (p k) n 0) l ks ∙ omega (
      arith,
      ap (λ b. cond b n 0) (others 0 l (λ e. omega (arith, e)) refl),
      once_sum n p ks i k at is (λ j other ne found. others (suc j) other (λ e. ne (omega (arith, e))) found),
    )

-- a sum part by part, where each member is in one part, or in none if it doesn't pass another test
pub sum_parts_of : {K X : Type 0} (f : X → ℕ) (p : K → X → Bool) (q : X → Bool) (ks : List K) (xs : List X)
    → ((x : X) → In x xs → q x ≡ true → IsOnce (λ k. p k x) ks) → ((x : X) (k : K) → q x ≡ false → p k x ≡ false)
    → sum_by (λ k. sum_by f (filter (p k) xs)) ks ≡ sum_by f (filter q xs)
sum_parts_of f p q ks xs once never =
    sum_same (λ k. sum_by f (filter (p k) xs)) (λ k. sum_by (λ x. cond (p k x) (f x) 0) xs) ks (λ k i. sum_filter f (p k) xs)
    ∙ sum_swap (λ k x. cond (p k x) (f x) 0) ks xs
    ∙ sum_same (λ x. sum_by (λ k. cond (p k x) (f x) 0) ks) (λ x. cond (q x) (f x) 0) xs (λ x i. by x i (q x) refl)
    ∙ sym (sum_filter f q xs)
  where
    by : (x : _) → In x xs → (b : Bool) → q x ≡ b → sum_by (λ k. cond (p k x) (f x) 0) ks ≡ cond (q x) (f x) 0
    by x i true e = let o = once x i e in once_sum (f x) (λ k. p k x) ks o.0 o.1.0 o.1.1 o.1.2 o.1.3 ∙ ap (λ b. cond b (f x) 0) (sym e)
    by x i false e = sum_zero (λ k. cond (p k x) (f x) 0) ks (λ k j. ap (λ b. cond b (f x) 0) (never x k e)) ∙ ap (λ b. cond b (f x) 0) (sym e)

-- a sum part by part, where each member is in one part
pub sum_parts : {K X : Type 0} (f : X → ℕ) (p : K → X → Bool) (ks : List K) (xs : List X) → ((x : X) → In x xs → IsOnce (λ k. p k x) ks)
    → sum_by (λ k. sum_by f (filter (p k) xs)) ks ≡ sum_by f xs
sum_parts f p ks xs once = sum_parts_of f p (λ x. true) ks xs (λ x i e. once x i) (λ x k e. absurd (false≢true (sym e)))
    ∙ ap (sum_by f) (filter_all (λ x. true) xs (λ x i. refl))
