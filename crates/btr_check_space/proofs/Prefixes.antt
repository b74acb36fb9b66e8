-- Tests and sums over lists: of their fronts, where the rest comes to nothing, and of what is made of them.
use Rattle.std.proofs.Common.{◌≡◌, ℕ, zero, suc, ◌+◌, ◌<◌, ◌≤◌, Bool, true, false, ◌&&◌, ◌||◌, cond, List, [], ◌∷◌, length, map, filter, take, get_or, sum_by}
use Rattle.std.proofs.Common.{refl, sym, ap, ◌∙◌, arith}
use Rattle.std.proofs.lemmas.List.Sums.{sum_by-cons}
use Rattle.std.specs.List.{list_any}

module _ {X : Type 0} where
  -- whether one passes a test
  pub any_front : (p q : X → Bool) (xs : List X) (i : ℕ) → ((k : ℕ) (d : X) → k < i → p (get_or xs k d) ≡ q (get_or xs k d))
      → ((k : ℕ) (d : X) → i ≤ k → k < length xs → p (get_or xs k d) ≡ false) → list_any p xs ≡ list_any q (take i xs)
  any_front p q [] zero same none = refl
  any_front p q [] (suc i) same none = refl
  any_front p q (x ∷ xs) zero same none =
      ap (λ b. b || list_any p xs) (none 0 x (omega arith) (omega arith))
      ∙ any_front p q xs 0 (λ k d below. absurd (omega (arith, below))) (λ k d from below. none (suc k) d (omega arith) (omega (arith, below)))
  any_front p q (x ∷ xs) (suc i) same none =
      ap (λ b. b || list_any p xs) (same 0 x (omega arith))
      ∙ ap (λ b. q x || b) (any_front p q xs i (λ k d below. same (suc k) d (omega (arith, below)))
      (λ k d from below. none (suc k) d (omega (arith, from)) (omega (arith, below))))

  -- a sum
  pub sum_front : (f g : X → ℕ) (xs : List X) (i : ℕ) → ((k : ℕ) (d : X) → k < i → f (get_or xs k d) ≡ g (get_or xs k d))
      → ((k : ℕ) (d : X) → i ≤ k → k < length xs → f (get_or xs k d) ≡ 0) → sum_by f xs ≡ sum_by g (take i xs)
  sum_front f g [] zero same none = refl
  sum_front f g [] (suc i) same none = refl
  sum_front f g (x ∷ xs) zero same none =
      let here : f x ≡ 0 = none 0 x (omega arith) (omega arith) in
      let rest : sum_by f xs ≡ 0 =
      sum_front f g xs 0 (λ k d below. absurd (omega (arith, below))) (λ k d from below. none (suc k) d (omega arith) (omega (arith, below))) in
      let all : sum_by f (x ∷ xs) ≡ f x + sum_by f xs = sum_by-cons f x xs in
      omega arith
  sum_front f g (x ∷ xs) (suc i) same none =
      sum_by-cons f x xs
      ∙ ap (λ n. n + sum_by f xs) (same 0 x (omega arith))
      ∙ ap (λ n. g x + n) (sum_front f g xs i (λ k d below. same (suc k) d (omega (arith, below)))
      (λ k d from below. none (suc k) d (omega (arith, from)) (omega (arith, below))))
      ∙ sym (sum_by-cons g x (take i xs))

  -- two sums that come to a third, element by element
  pub sum_both : (f g h : X → ℕ) (xs : List X) → ((x : X) → f x + g x ≡ h x) → sum_by f xs + sum_by g xs ≡ sum_by h xs
  sum_both f g h [] each = refl
  sum_both f g h (x ∷ xs) each =
      let here : f x + g x ≡ h x = each x in
      let rest : sum_by f xs + sum_by g xs ≡ sum_by h xs = sum_both f g h xs each in
      let first : sum_by f (x ∷ xs) ≡ f x + sum_by f xs = sum_by-cons f x xs in
      let second : sum_by g (x ∷ xs) ≡ g x + sum_by g xs = sum_by-cons g x xs in
      let third : sum_by h (x ∷ xs) ≡ h x + sum_by h xs = sum_by-cons h x xs in
      omega arith

-- whether something that is made of an element passes a test
pub any_map : {X Y : Type 0} (p : X → Bool) (make : Y → X) (ys : List Y) → list_any p (map make ys) ≡ list_any (λ y. p (make y)) ys
any_map p make [] = refl
any_map p make (y ∷ ys) = ap (λ b. p (make y) || b) (any_map p make ys)

-- whether one of those that pass a test passes another
pub any_filter : {X : Type 0} (p q : X → Bool) (xs : List X) → list_any p (filter q xs) ≡ list_any (λ x. q x && p x) xs
any_filter p q [] = refl
any_filter p q (x ∷ xs) = by (q x) (any_filter p q xs)
  where
    by : (b : Bool) → list_any p (filter q xs) ≡ list_any (λ x. q x && p x) xs → list_any p (cond b (x ∷ filter q xs) (filter q xs))
        ≡ ((b && p x) || list_any (λ x. q x && p x) xs)
    by true rest = ap (λ b. p x || b) rest
    by false rest = rest
