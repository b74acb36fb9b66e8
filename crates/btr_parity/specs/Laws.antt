-- The laws of the field and of parity.
use Rattle.std.specs.Prelude.{◌≡◌, ◌≢◌, ℕ, ◌+◌, ◌-◌, ◌<◌, ◌≤◌, List, [], ◌∷◌, ◌++◌, All, length, map, slice_range, slice_index_or, slice_set, take, bit_xor}
use Rattle.btr_parity.specs.Field.{product, power, IsProduct}
use Rattle.btr_parity.specs.Slices.{IsSlice, zeros, plus, scaled, parity_p, parity_q}
use Rattle.btr_parity.specs.Solutions.{IsTheOne, Weighs, WeighsWith, FitsP, FitsQ, FitsBoth}

-- the product of two bytes is that of the polynomials modulo the modulus, and no other byte is
pub record ProductIsRemainder : Type 0 where
  pub is : (a b : ℕ) → a < 256 → b < 256 → IsProduct a b (product a b)
  pub only : (a b c : ℕ) → IsProduct a b c → c ≡ product a b

-- 2^i times a sum is the sum of the products, of bytes and of slices
pub record ProductsKeepSums : Type 0 where
  pub of_bytes : (i a b : ℕ)
      → product (power i) (bit_xor a b) ≡ bit_xor (product (power i) a) (product (power i) b)
  pub of_slices : (i : ℕ) (xs ys : List ℕ)
      → scaled (power i) (plus xs ys) ≡ plus (scaled (power i) xs) (scaled (power i) ys)

-- 2^0 to 2^62 differ, and none is 0
pub record PowersDiffer : Type 0 where
  pub nonzero : (i : ℕ) → i ≤ 62 → power i ≢ 0
  pub differ : (i j : ℕ) → i ≤ 62 → j ≤ 62 → power i ≡ power j → i ≡ j

-- 2^i * X = c has one solution
abbrev pub QuotientIsOne : Type 0
QuotientIsOne = (size i : ℕ) (c : List ℕ) → i ≤ 62 → IsSlice size c
    → (X : List ℕ) × IsTheOne size (Weighs i c) X

-- X + Y = p and 2^x * X + 2^y * Y = q have one solution
abbrev pub PairIsOne : Type 0
PairIsOne = (size x y : ℕ) (p q : List ℕ) → x ≤ 62 → y ≤ 62 → x ≢ y → IsSlice size p → IsSlice size q
    → (X : List ℕ) × IsTheOne size (WeighsWith p q x y) X

-- ---- sums of slices

-- a sum of slices of one size is a slice, in any order, with zeros or without, and twice the same is nothing
pub record SumsOfSlices : Type 0 where
  pub is_slice : (size : ℕ) (xs ys : List ℕ) → IsSlice size xs → IsSlice size ys → IsSlice size (plus xs ys)
  pub either_order : (xs ys : List ℕ) → plus xs ys ≡ plus ys xs
  pub in_threes : (xs ys zs : List ℕ) → plus (plus xs ys) zs ≡ plus xs (plus ys zs)
  pub with_zeros : (size : ℕ) (xs : List ℕ) → IsSlice size xs → plus xs (zeros size) ≡ xs
  pub twice : (size : ℕ) (xs ys : List ℕ) → IsSlice size xs → IsSlice size ys → plus (plus xs ys) ys ≡ xs

-- P and Q of no slice and of one more at the end; and Q of one more in front
pub record ParityByFolding : Type 0 where
  pub p_of_none : (size : ℕ) → parity_p size [] ≡ zeros size
  pub q_of_none : (size : ℕ) → parity_q size [] ≡ zeros size
  pub p_of_one_more : (size : ℕ) (ds : List (List ℕ)) (d : List ℕ) → IsSlice size d
      → parity_p size (ds ++ d ∷ []) ≡ plus (parity_p size ds) d
  pub q_of_one_more : (size : ℕ) (ds : List (List ℕ)) (d : List ℕ) → IsSlice size d
      → parity_q size (ds ++ d ∷ []) ≡ plus (parity_q size ds) (scaled (power (length ds)) d)
  pub q_of_one_before : (size : ℕ) (ds : List (List ℕ)) (d : List ℕ) → All (IsSlice size) ds → IsSlice size d
      → parity_q size (d ∷ ds) ≡ plus (scaled 2 (parity_q size ds)) d

-- A loop that adds slices to P has added the first k of them: none, one more, one that is zeros and so
-- may be left out, and all of them, to zeros
pub record FoldingOntoP : Type 0 where
  pub none : (size : ℕ) (ds : List (List ℕ)) (P : List ℕ) → IsSlice size P
      → plus P (parity_p size (take 0 ds)) ≡ P
  pub one_more : (size k : ℕ) (ds : List (List ℕ)) (P : List ℕ) → All (IsSlice size) ds → k < length ds
      → plus (plus P (parity_p size (take k ds))) (slice_index_or ds k [])
      ≡ plus P (parity_p size (take (k + 1) ds))
  pub left_out : (size k : ℕ) (ds : List (List ℕ)) (P : List ℕ) → All (IsSlice size) ds → k < length ds
      → slice_index_or ds k [] ≡ zeros size
      → plus P (parity_p size (take k ds)) ≡ plus P (parity_p size (take (k + 1) ds))
  pub from_zeros : (size : ℕ) (ds : List (List ℕ)) → All (IsSlice size) ds
      → plus (zeros size) (parity_p size (take (length ds) ds)) ≡ parity_p size ds

-- the same of Q
pub record FoldingOntoQ : Type 0 where
  pub none : (size : ℕ) (ds : List (List ℕ)) (Q : List ℕ) → IsSlice size Q
      → plus Q (parity_q size (take 0 ds)) ≡ Q
  pub one_more : (size k : ℕ) (ds : List (List ℕ)) (Q : List ℕ) → All (IsSlice size) ds → k < length ds
      → plus (plus Q (parity_q size (take k ds))) (scaled (power k) (slice_index_or ds k []))
      ≡ plus Q (parity_q size (take (k + 1) ds))
  pub left_out : (size k : ℕ) (ds : List (List ℕ)) (Q : List ℕ) → All (IsSlice size) ds → k < length ds
      → slice_index_or ds k [] ≡ zeros size
      → plus Q (parity_q size (take k ds)) ≡ plus Q (parity_q size (take (k + 1) ds))
  pub from_zeros : (size : ℕ) (ds : List (List ℕ)) → All (IsSlice size) ds
      → plus (zeros size) (parity_q size (take (length ds) ds)) ≡ parity_q size ds

-- some bytes of each slice
abbrev pub ranges_of : ℕ → ℕ → List (List ℕ) → List (List ℕ)
ranges_of from to slices = map (λ (slice : List ℕ). slice_range slice from to) slices

-- the parity of ranges is the range of the parity
pub record ParityOfRanges : Type 0 where
  pub of_p : (size from to : ℕ) (slices : List (List ℕ)) → from ≤ to → to ≤ size
      → parity_p (to - from) (ranges_of from to slices) ≡ slice_range (parity_p size slices) from to
  pub of_q : (size from to : ℕ) (slices : List (List ℕ)) → from ≤ to → to ≤ size
      → parity_q (to - from) (ranges_of from to slices) ≡ slice_range (parity_q size slices) from to

-- ---- lost slices; the others are the slices with zeros in each lost place

-- the slice in place i is P less the others
abbrev pub LostByP : Type 0
LostByP = (size i : ℕ) (slices : List (List ℕ)) (P : List ℕ)
    → All (IsSlice size) slices → i < length slices → IsSlice size P
    → let others = slice_set slices i (zeros size) in
    IsTheOne size (FitsP size slices P i) (plus P (parity_p size others))

-- 2^i times the slice in place i is Q less the others
abbrev pub LostByQ : Type 0
LostByQ = (size i : ℕ) (slices : List (List ℕ)) (Q X : List ℕ)
    → All (IsSlice size) slices → i < length slices → IsSlice size Q
    → let others = slice_set slices i (zeros size) in
    IsTheOne size (Weighs i (plus Q (parity_q size others))) X → IsTheOne size (FitsQ size slices Q i) X

-- the slices in places i and j are those whose sums are P and Q less the others
abbrev pub LostByBoth : Type 0
LostByBoth = (size i j : ℕ) (slices : List (List ℕ)) (P Q X : List ℕ)
    → All (IsSlice size) slices → i < length slices → j < length slices → i ≢ j → IsSlice size P → IsSlice size Q
    → let others = slice_set (slice_set slices j (zeros size)) i (zeros size) in
    IsTheOne size (WeighsWith (plus P (parity_p size others)) (plus Q (parity_q size others)) i j) X
    → IsTheOne size (FitsBoth size slices P Q i j) X
