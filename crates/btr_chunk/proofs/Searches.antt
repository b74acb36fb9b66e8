-- Tests of the elements of a list, by their places.
use Rattle.std.proofs.Common.{◌≡◌, ℕ, zero, suc, ◌<◌, Bool, true, false, cond, List, [], ◌∷◌, Option, Some, None, find, IsSome, slice_get, inl, inr, sym, ap}
use Rattle.std.proofs.Common.{◌∙◌, refl, arith}
use Rattle.std.proofs.lemmas.Bool.{or_cases, or_parts, or_from, or_left, or_right, false≢true}
use Rattle.std.specs.List.{list_any}

-- an element that passes a test
pub record Passes {X : Type 0} (p : X → Bool) (xs : List X) : Type 0 where
  pub place : ℕ
  pub element : X
  pub there : slice_get xs place ≡ Some element
  pub passes : p element ≡ true

-- where some element passes, there is one that does
pub Passes-list_any : {X : Type 0} (p : X → Bool) (xs : List X) → list_any p xs ≡ true → Passes p xs
Passes-list_any p [] any = absurd (false≢true any)
Passes-list_any {X} p (x ∷ xs) any =
    let later : list_any p xs ≡ true → Passes p (x ∷ xs) = λ tail.
    let found = Passes-list_any p xs tail in
    record { place = suc found.place; element = found.element; there = found.there; passes = found.passes } in
    elim (or_cases (p x) (list_any p xs) any) [
      | inl here ↦ record { place = 0; element = x; there = refl; passes = here }
      | inr tail ↦ later tail
    ]

-- where none passes, each element fails
pub fails-list_any : {X : Type 0} (p : X → Bool) (xs : List X) → list_any p xs ≡ false → (i : ℕ) (x : X) → slice_get xs i ≡ Some x → p x ≡ false
fails-list_any p [] none i x there = cc
fails-list_any p (y ∷ ys) none zero x there = let same : y ≡ x = cc in rw (← same) (or_parts _ _ none).0
fails-list_any p (y ∷ ys) none (suc i) x there = fails-list_any p ys (or_parts _ _ none).1 i x there

-- where an element passes, some does
pub list_any-true : {X : Type 0} (p : X → Bool) (xs : List X) (i : ℕ) (x : X) → slice_get xs i ≡ Some x → p x ≡ true → list_any p xs ≡ true
list_any-true p [] i x there passes = cc
list_any-true p (y ∷ ys) zero x there passes = let same : y ≡ x = cc in or_left (p y) (list_any p ys) (ap p same ∙ passes)
list_any-true p (y ∷ ys) (suc i) x there passes = or_right (p y) (list_any p ys) (list_any-true p ys i x there passes)

-- where each element fails, none passes
pub list_any-false : {X : Type 0} (p : X → Bool) (xs : List X) → ((i : ℕ) (x : X) → slice_get xs i ≡ Some x → p x ≡ false) → list_any p xs ≡ false
list_any-false p [] none = refl
list_any-false p (y ∷ ys) none = or_from _ _ (none 0 y refl) (list_any-false p ys (λ i x there. none (suc i) x there))

-- one step of a search
find-step : {X : Type 0} (p : X → Bool) (y : X) (found : Option X) (answer : Option X) (b : Bool) → p y ≡ b
    → (b ≡ true → answer ≡ Some y) → (b ≡ false → found ≡ answer) → cond b (Some y) found ≡ answer
find-step p y found answer true is here later = sym (here refl)
find-step p y found answer false is here later = later refl

-- the one element that passes is found
pub find-only : {X : Type 0} (p : X → Bool) (xs : List X) (i : ℕ) (x : X) → slice_get xs i ≡ Some x → p x ≡ true
    → ((j : ℕ) (y : X) → slice_get xs j ≡ Some y → p y ≡ true → y ≡ x) → find p xs ≡ Some x
find-only p [] i x there passes only = cc
find-only p (y ∷ ys) zero x there passes only = let same : y ≡ x = cc in rw (ap p same ∙ passes) there
find-only p (y ∷ ys) (suc i) x there passes only =
    find-step p y (find p ys) (Some x) (p y) refl (λ here. ap (λ z. Some z) (sym (only 0 y refl here)))
    (λ no. find-only p ys i x there passes (λ j z at. only (suc j) z at))

-- the first element that passes is found
pub find-first : {X : Type 0} (p : X → Bool) (xs : List X) (i : ℕ) (x : X) → slice_get xs i ≡ Some x → p x ≡ true
    → ((j : ℕ) (y : X) → j < i → slice_get xs j ≡ Some y → p y ≡ false) → find p xs ≡ Some x
find-first p [] i x there passes before = cc
find-first p (y ∷ ys) zero x there passes before = let same : y ≡ x = cc in rw (ap p same ∙ passes) there
find-first p (y ∷ ys) (suc i) x there passes before =
    rw (before 0 y (omega arith) refl) (find-first p ys i x there passes (λ j z lt at. before (suc j) z (omega (arith, lt)) at))

-- where each element fails, none is found
pub find-none : {X : Type 0} (p : X → Bool) (xs : List X) → ((j : ℕ) (y : X) → slice_get xs j ≡ Some y → p y ≡ false) → find p xs ≡ None
find-none p [] none = refl
find-none p (y ∷ ys) none = rw (none 0 y refl) (find-none p ys (λ j z at. none (suc j) z at))

-- what can't be there isn't
pub none_from : {X : Type 0} (o : Option X) → (IsSome o → ⊥) → o ≡ None
none_from None absent = refl
none_from (Some x) absent = absurd (absent refl)
