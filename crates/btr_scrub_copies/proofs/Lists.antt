-- Lists, those of them that pass a test, and ranges of numbers.
use Rattle.std.proofs.Common.{◌≡◌, ℕ, suc, zero, ◌+◌, ◌<◌, Bool, true, false, List, [], ◌∷◌, ◌++◌, length, map, take, get_or, set, slice_get, Option, Some}
use Rattle.std.proofs.Common.{None, IsSome, IsSomeAnd, refl, sym, ap, ◌∙◌, subst, inl, inr, arith}
use Rattle.btr_scrub_copies.proofs.Common.{In, cases_lt, filter, get_or-set_other, range_with_len}
use Rattle.std.specs.List.{filter_map, list_any}
use Rattle.std.proofs.lemmas.Grind.{common_steps}
use Rattle.std.proofs.lemmas.List.{get_or-set_same}
use Rattle.std.proofs.lemmas.List.Folds.{Any-from_list_any, list_any-from_Any}
use Rattle.btr_read.proofs.Ones.{in_below, of_map}
use Rattle.btr_read.proofs.Order.{filter_at}

module _ {X : Type 0} where
  -- two tests that agree at each of a list keep the same ones
  pub filter_same : (p q : X → Bool) (xs : List X) → ((x : X) → In x xs → p x ≡ q x) → filter p xs ≡ filter q xs
  filter_same p q [] h = refl
  filter_same p q (x ∷ xs) h = let e = h x (inl refl) in let rest = filter_same p q xs (λ y i. h y (inr i)) in cc

  -- a test that each of a list passes keeps all
  pub filter_all : (p : X → Bool) (xs : List X) → ((x : X) → In x xs → p x ≡ true) → filter p xs ≡ xs
  filter_all p [] h = refl
  filter_all p (x ∷ xs) h = rw (h x (inl refl)) (ap (λ ys. x ∷ ys) (filter_all p xs (λ y i. h y (inr i))))

  -- a test that none of a list passes keeps none
  pub filter_none : (p : X → Bool) (xs : List X) → ((x : X) → In x xs → p x ≡ false) → filter p xs ≡ []
  filter_none p [] h = refl
  filter_none p (x ∷ xs) h = rw (h x (inl refl)) (filter_none p xs (λ y i. h y (inr i)))

  -- where all that pass a test pass another one before it, that one changes nothing
  pub filter_twice : (p q : X → Bool) (xs : List X) → ((x : X) → p x ≡ true → q x ≡ true) → filter p (filter q xs) ≡ filter p xs
  filter_twice p q [] h = refl
  filter_twice p q (x ∷ xs) h = grind (arith, common_steps, h x, filter_twice p q xs h)

  -- what passes a test stands in what is left
  pub any_passes : (p q : X → Bool) (xs : List X) → ((x : X) → p x ≡ true → q x ≡ true) → list_any p xs ≡ true → list_any q xs ≡ true
  any_passes p q xs h some = let r = Any-from_list_any p xs some in list_any-from_Any q xs (r.0, r.1, r.2, r.3, h r.1 r.4)

  -- where none passes a test that is true of all that another keeps, that one keeps none
  pub none_kept : (p q : X → Bool) (xs : List X) → list_any p xs ≡ false → ((x : X) → p x ≡ false → q x ≡ false) → filter q xs ≡ []
  none_kept p q [] none h = refl
  none_kept p q (x ∷ xs) none h = grind (arith, common_steps, h x, none_kept p q xs)

  -- the first of a list that passes, where those before it don't
  pub first_kept : (p : X → Bool) (xs : List X) (k : ℕ) (x : X) → slice_get xs k ≡ Some x → filter p (take k xs) ≡ [] → p x ≡ true
      → slice_get (filter p xs) 0 ≡ Some x
  first_kept p xs k x at none passes = subst (λ ys. slice_get (filter p xs) (length ys) ≡ Some x) none (filter_at p xs k x at passes)

  -- what follows of a value follows of one that may be there
  pub some_and : (P Q : X → Type 0) (o : Option X) → ((x : X) → P x → Q x) → IsSomeAnd o P → IsSomeAnd o Q
  some_and P Q None f h = h
  some_and P Q (Some x) f h = f x h

module _ {X Y : Type 0} where
  -- a test of what comes of each is a test of each
  pub filter-map : (f : X → Y) (p : Y → Bool) (xs : List X) → filter p (map f xs) ≡ map f (filter (λ x. p (f x)) xs)
  filter-map f p [] = refl
  filter-map f p (x ∷ xs) = grind (arith, common_steps, filter-map f p xs)

  -- where something comes of each, as much comes of all
  pub length-filter_map : (f : X → Option Y) (xs : List X) → ((x : X) → In x xs → IsSome (f x)) → length (filter_map f xs) ≡ length xs
  length-filter_map f [] h = refl
  length-filter_map f (x ∷ xs) h = grind (arith, common_steps, h x (inl refl), length-filter_map f xs (λ y i. h y (inr i)))

-- what holds of the first n numbers holds of each one in their range
pub each_of : {Y : Type 0} (f : ℕ → Y) (P : Y → Type 0) (n : ℕ) → ((k : ℕ) → k < n → P (f k)) → (y : Y) → In y (map f (range_with_len 0 n)) → P y
each_of f P n h y i = let r = of_map f y (range_with_len 0 n) i in subst P r.2 (h r.0 (in_below n r.0 r.1))

-- a range of numbers, in two parts
pub range_apart : (a b m d : ℕ) → a + m ≡ b → range_with_len a (m + d) ≡ range_with_len a m ++ range_with_len b d
range_apart a b zero d e = let start : a ≡ b = omega (arith, e) in let same : 0 + d ≡ d = omega arith in cc
range_apart a b (suc m) d e =
    let one : suc m + d ≡ suc (m + d) = omega arith in
    ap (range_with_len a) one ∙ ap (λ xs. a ∷ xs) (range_apart (a + 1) b m d (omega (arith, e)))

-- one more flag
pub flag_more : (flags : List Bool) (n k : ℕ) (b : Bool) (f : ℕ → Bool) → n < length flags → ((k : ℕ) → k < n → get_or flags k false ≡ f k)
    → b ≡ f n → k < n + 1 → get_or (set flags n b) k false ≡ f k
flag_more flags n k b f within before here lt = elim (cases_lt k n) [
  | inl below ↦ get_or-set_other flags n k b false (λ e. absurd (omega (arith, e, below))) ∙ before k below
  | inr there ↦
      let same : n ≡ k = omega (arith, there, lt) in
      ap (λ j. get_or (set flags n b) j false) (sym same) ∙ get_or-set_same flags n b false within ∙ here ∙ ap f same
]
