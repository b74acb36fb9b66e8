-- Ranges of slices, and of their parities.
use Rattle.std.proofs.Common.{◌≡◌, ℕ, zero, suc, ◌+◌, ◌-◌, ◌≤◌, List, [], ◌∷◌, take, drop, slice_range, refl, sym, ap, ◌∙◌, arith}
use Rattle.std.proofs.lemmas.List.{take-replicate, drop-replicate, take-map, drop-map}
use Rattle.std.specs.Simd.Lanes.{zip2}
use Rattle.btr_parity.specs.Field.{power}
use Rattle.btr_parity.specs.Slices.{plus, scaled, zeros, parity_p, weighted}
use Rattle.btr_parity.specs.Laws.{ranges_of, ParityOfRanges}

-- with no second list there are no pairs
zip2-none : (f : ℕ → ℕ → ℕ) (xs : List ℕ) → zip2 f xs [] ≡ []
zip2-none f [] = refl
zip2-none f (x ∷ xs) = refl

-- the first n of the pairs are the pairs of the first n
take-zip2 : (f : ℕ → ℕ → ℕ) (n : ℕ) (xs ys : List ℕ) → take n (zip2 f xs ys) ≡ zip2 f (take n xs) (take n ys)
take-zip2 f zero xs ys = refl
take-zip2 f (suc n) [] ys = refl
take-zip2 f (suc n) (x ∷ xs) [] = refl
take-zip2 f (suc n) (x ∷ xs) (y ∷ ys) = ap (λ zs. f x y ∷ zs) (take-zip2 f n xs ys)

-- the pairs behind the first n are the pairs of what is behind
drop-zip2 : (f : ℕ → ℕ → ℕ) (n : ℕ) (xs ys : List ℕ) → drop n (zip2 f xs ys) ≡ zip2 f (drop n xs) (drop n ys)
drop-zip2 f zero xs ys = refl
drop-zip2 f (suc n) [] ys = refl
drop-zip2 f (suc n) (x ∷ xs) [] = sym (zip2-none f (drop n xs))
drop-zip2 f (suc n) (x ∷ xs) (y ∷ ys) = drop-zip2 f n xs ys

module _ (from to : ℕ) where
  -- the range of a slice
  abbrev cut : List ℕ → List ℕ
  cut xs = slice_range xs from to

  -- the sum of ranges is the range of the sum
  cut-plus : (xs ys : List ℕ) → plus (cut xs) (cut ys) ≡ cut (plus xs ys)
  cut-plus xs ys = sym (ap (take (to - from)) (drop-zip2 _ from xs ys) ∙ take-zip2 _ (to - from) (drop from xs) (drop from ys))

  -- a factor times a range is the range of the product
  cut-scaled : (c : ℕ) (xs : List ℕ) → scaled c (cut xs) ≡ cut (scaled c xs)
  cut-scaled c xs = sym (ap (take (to - from)) (drop-map _ from xs) ∙ take-map _ (to - from) (drop from xs))

  -- zeros of a range's length are the range of zeros
  cut-zeros : (size : ℕ) → from ≤ to → to ≤ size → zeros (to - from) ≡ cut (zeros size)
  cut-zeros size le most = sym (ap (take (to - from)) (drop-replicate from size 0) ∙ take-replicate (to - from) (size - from) 0 (omega (arith, le, most)))

  -- P of the ranges is the range of P
  p_of : (size : ℕ) (slices : List (List ℕ)) → from ≤ to → to ≤ size → parity_p (to - from) (ranges_of from to slices) ≡ cut (parity_p size slices)
  unfolding parity_p
  p_of size [] le most = cut-zeros size le most
  p_of size (d ∷ ds) le most = ap (plus (cut d)) (p_of size ds le most) ∙ cut-plus d (parity_p size ds)

  -- the weighted sum of the ranges is the range of the weighted sum
  q_of : (size i : ℕ) (slices : List (List ℕ)) → from ≤ to → to ≤ size → weighted (to - from) i (ranges_of from to slices) ≡ cut (weighted size i slices)
  unfolding weighted
  q_of size i [] le most = cut-zeros size le most
  q_of size i (d ∷ ds) le most =
      ap (λ xs. plus xs (weighted (to - from) (i + 1) (ranges_of from to ds))) (cut-scaled (power i) d)
      ∙ ap (plus (cut (scaled (power i) d))) (q_of size (i + 1) ds le most)
      ∙ cut-plus (scaled (power i) d) (weighted size (i + 1) ds)

-- the parity of ranges is the range of the parity
pub parity_of_ranges : ParityOfRanges
parity_of_ranges = record {
  of_p = λ size from to slices le most. p_of from to size slices le most;
  of_q = λ size from to slices le most. q_of from to size 0 slices le most;
}
