-- Texts of lists, one element more at a time.
use Rattle.std.proofs.Common.{◌≡◌, ℕ, zero, suc, ◌+◌, ◌<◌, ◌≤◌, List, [], ◌∷◌, ◌++◌, length, take, drop, get_or, flat_map, refl, sym, ap, ◌∙◌, arith}
use Rattle.std.proofs.lemmas.Grind.{flat_map-append}
use Rattle.std.proofs.lemmas.List.{take-append-drop, take_more, append-nil}

module _ {X : Type 0} (show : X → List ℕ) where
  -- the text of one more
  pub shown_more : (xs : List X) (i : ℕ) (d : X) → i < length xs → flat_map show (take (i + 1) xs) ≡ flat_map show (take i xs) ++ show (get_or xs i d)
  shown_more xs i d below =
      ap (flat_map show) (take_more xs i d below) ∙ flat_map-append show (take i xs) (get_or xs i d ∷ [])
      ∙ ap (λ l. flat_map show (take i xs) ++ l) (append-nil (show (get_or xs i d)))

  -- the text around one of them
  pub shown_around : (xs : List X) (i : ℕ) (d : X) → i < length xs → flat_map show xs ≡ (flat_map show (take i xs) ++ show (get_or xs i d)) ++ flat_map show
      (drop (i + 1) xs)
  shown_around xs i d below =
      ap (flat_map show) (sym (take-append-drop (i + 1) xs)) ∙ flat_map-append show (take (i + 1) xs) (drop (i + 1) xs)
      ∙ ap (λ l. l ++ flat_map show (drop (i + 1) xs)) (shown_more xs i d below)

-- the first of those behind some
pub first_left : {X : Type 0} (xs : List X) (n : ℕ) (x : X) (ys : List X) → drop n xs ≡ x ∷ ys → (n < length xs) × (get_or xs n x ≡ x) × (drop (n + 1) xs ≡ ys)
first_left [] zero x ys is = cc
first_left [] (suc n) x ys is = cc
first_left (y ∷ xs) zero x ys is =
    let first : y ≡ x = cc in
    let rest : xs ≡ ys = cc in
    (omega arith, first, rest)
first_left (y ∷ xs) (suc n) x ys is =
    let here = first_left xs n x ys is in
    let one : suc n + 1 ≡ suc (n + 1) = omega arith in
    (omega (arith, here.0), here.1, ap (λ k. drop k (y ∷ xs)) one ∙ here.2)

-- where none is left, those were all
pub none_left : {X : Type 0} (xs : List X) (n : ℕ) → n ≤ length xs → drop n xs ≡ [] → n ≡ length xs
none_left [] zero within is = refl
none_left [] (suc n) within is = absurd (omega (arith, within))
none_left (x ∷ xs) zero within is = cc
none_left (x ∷ xs) (suc n) within is = let rest : n ≡ length xs = none_left xs n (omega (arith, within)) is in omega (arith, rest)
