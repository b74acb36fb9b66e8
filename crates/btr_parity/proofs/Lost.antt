-- Sums of slices, and slices that are lost among others.
use Rattle.std.proofs.Common.{◌≡◌, ℕ, zero, suc, ◌+◌, ◌<◌, List, [], ◌∷◌, All, length, set, refl, sym, ap, ap₂, ◌∙◌, subst, arith, bit_xor}
use Rattle.std.specs.Int.Bits.{xor_assoc, xor_zero_r}
use Rattle.std.proofs.lemmas.Nat.{xor_comm, xor_lt}
use Rattle.std.proofs.lemmas.List.{length-map, length-replicate, length-set, set_comm}
use Rattle.std.proofs.lemmas.List.Elements.{All-head, All-tail, All-set, All-replicate}
use Rattle.std.proofs.lemmas.Simd.{length-zip2}
use Rattle.btr_parity.specs.Field.{product, power}
use Rattle.btr_parity.specs.Slices.{IsSlice, zeros, plus, scaled, parity_p, weighted, parity_q}
use Rattle.btr_parity.specs.Solutions.{IsTheOne, WeighsWith, FitsBoth}
use Rattle.btr_parity.specs.Laws.{SumsOfSlices, LostByP, LostByQ, LostByBoth}
use Rattle.btr_parity.proofs.Products.{product-right, product-zero, power-lt}
use Rattle.btr_parity.proofs.Solving.{IsByte, xor_twice, All-zip2, All-scaled}

-- ---- sums of slices

-- slices are added in either order
pub plus_comm : (xs ys : List ℕ) → plus xs ys ≡ plus ys xs
plus_comm [] [] = refl
plus_comm [] (y ∷ ys) = refl
plus_comm (x ∷ xs) [] = refl
plus_comm (x ∷ xs) (y ∷ ys) = ap₂ (λ z zs. z ∷ zs) (xor_comm x y) (plus_comm xs ys)

-- slices are added in any grouping
pub plus_assoc : (xs ys zs : List ℕ) → plus (plus xs ys) zs ≡ plus xs (plus ys zs)
plus_assoc [] ys zs = refl
plus_assoc (x ∷ xs) [] zs = refl
plus_assoc (x ∷ xs) (y ∷ ys) [] = refl
plus_assoc (x ∷ xs) (y ∷ ys) (z ∷ zs) = ap₂ (λ u us. u ∷ us) (xor_assoc x y z) (plus_assoc xs ys zs)

-- zeros added to a slice leave it
pub plus-zeros : (xs : List ℕ) (size : ℕ) → length xs ≡ size → plus xs (zeros size) ≡ xs
plus-zeros [] size e = refl
plus-zeros (x ∷ xs) zero e = absurd (omega arith)
plus-zeros (x ∷ xs) (suc size) e = ap₂ (λ z zs. z ∷ zs) (xor_zero_r x) (plus-zeros xs size (omega arith))

-- the same slice added twice leaves the other
pub plus_twice : (xs ys : List ℕ) → length xs ≡ length ys → plus (plus xs ys) ys ≡ xs
plus_twice [] ys e = refl
plus_twice (x ∷ xs) [] e = absurd (omega arith)
plus_twice (x ∷ xs) (y ∷ ys) e = ap₂ (λ z zs. z ∷ zs) (xor_twice x y) (plus_twice xs ys (omega arith))

-- a factor times a sum of slices is the sum of its products
pub scaled-plus : (c : ℕ) (xs ys : List ℕ) → scaled c (plus xs ys) ≡ plus (scaled c xs) (scaled c ys)
scaled-plus c [] ys = refl
scaled-plus c (x ∷ xs) [] = refl
scaled-plus c (x ∷ xs) (y ∷ ys) = ap₂ (λ z zs. z ∷ zs) ((product-right c).adds x y) (scaled-plus c xs ys)

-- a factor times zeros is zeros
pub scaled-zeros : (c size : ℕ) → scaled c (zeros size) ≡ zeros size
scaled-zeros c zero = refl
scaled-zeros c (suc size) = ap₂ (λ z zs. z ∷ zs) (product-zero c) (scaled-zeros c size)

-- a + (b + c) is b + (a + c)
pub plus_left : (xs ys zs : List ℕ) → plus xs (plus ys zs) ≡ plus ys (plus xs zs)
plus_left xs ys zs = sym (plus_assoc xs ys zs) ∙ ap (λ s. plus s zs) (plus_comm xs ys) ∙ plus_assoc ys xs zs

-- ---- they are slices

-- zeros are a slice
pub zeros_slice : (size : ℕ) → IsSlice size (zeros size)
zeros_slice size = record { long = length-replicate size 0; bytes = All-replicate IsByte size 0 (omega arith) }

-- the sum of two slices is a slice
pub plus_slice : (size : ℕ) (xs ys : List ℕ) → IsSlice size xs → IsSlice size ys → IsSlice size (plus xs ys)
plus_slice size xs ys h k = record {
  long = length-zip2 bit_xor xs ys (h.long ∙ sym k.long) ∙ h.long;
  bytes = All-zip2 bit_xor (λ u v lu lv. xor_lt 8 u v lu lv) xs ys h.bytes k.bytes;
}

-- a byte times a slice is a slice
pub scaled_slice : (size c : ℕ) (xs : List ℕ) → IsByte c → IsSlice size xs → IsSlice size (scaled c xs)
scaled_slice size c xs lc h = record { long = length-map xs (product c) ∙ h.long; bytes = All-scaled c lc xs h.bytes }

-- P of slices is a slice
pub parity_p_slice : (size : ℕ) (ds : List (List ℕ)) → All (IsSlice size) ds → IsSlice size (parity_p size ds)
unfolding parity_p
parity_p_slice size [] h = zeros_slice size
parity_p_slice size (d ∷ ds) h = plus_slice size d (parity_p size ds) (All-head (IsSlice size) d ds h) (parity_p_slice size ds (All-tail (IsSlice size) d ds h))

-- a weighted sum of slices is a slice
pub weighted_slice : (size k : ℕ) (ds : List (List ℕ)) → All (IsSlice size) ds → IsSlice size (weighted size k ds)
unfolding weighted
weighted_slice size k [] h = zeros_slice size
weighted_slice size k (d ∷ ds) h =
    plus_slice size (scaled (power k) d) (weighted size (k + 1) ds) (scaled_slice size (power k) d (power-lt k) (All-head (IsSlice size) d ds h))
    (weighted_slice size (k + 1) ds (All-tail (IsSlice size) d ds h))

-- a sum of slices is a slice, in any order, and twice the same is nothing
pub sums_of_slices : SumsOfSlices
sums_of_slices = record {
  is_slice = plus_slice;
  either_order = plus_comm;
  in_threes = plus_assoc;
  with_zeros = λ size xs h. plus-zeros xs size h.long;
  twice = λ size xs ys h k. plus_twice xs ys (h.long ∙ sym k.long);
}

-- ---- one slice among others

-- P with a slice in place i is that slice and P of the others
pub parity_p-set : (size i : ℕ) (ds : List (List ℕ)) (X : List ℕ) → All (IsSlice size) ds → i < length ds → parity_p size (set ds i X)
    ≡ plus X (parity_p size (set ds i (zeros size)))
unfolding parity_p
parity_p-set size i [] X h lt = absurd (omega arith)
parity_p-set size zero (d ∷ ds) X h lt =
    let rest = parity_p_slice size ds (All-tail (IsSlice size) d ds h) in
    ap (plus X) (sym (plus_comm (zeros size) (parity_p size ds) ∙ plus-zeros (parity_p size ds) size rest.long))
parity_p-set size (suc i) (d ∷ ds) X h lt =
    ap (plus d) (parity_p-set size i ds X (All-tail (IsSlice size) d ds h) (omega arith)) ∙ plus_left d X (parity_p size (set ds i (zeros size)))

-- the weighted sum with a slice in place i is that slice by its power and the sum of the others
pub weighted-set : (size k i : ℕ) (ds : List (List ℕ)) (X : List ℕ) → All (IsSlice size) ds → i < length ds
    → weighted size k (set ds i X) ≡ plus (scaled (power (k + i)) X) (weighted size k (set ds i (zeros size)))
unfolding weighted
weighted-set size k i [] X h lt = absurd (omega arith)
weighted-set size k zero (d ∷ ds) X h lt =
    let rest = weighted_slice size (k + 1) ds (All-tail (IsSlice size) d ds h) in
    let here : k ≡ k + 0 = omega arith in
    ap₂ (λ n w. plus (scaled (power n) X) w) here
    (sym (ap (λ z. plus z (weighted size (k + 1) ds)) (scaled-zeros (power k) size) ∙ plus_comm (zeros size) (weighted size (k + 1) ds)
    ∙ plus-zeros (weighted size (k + 1) ds) size rest.long))
weighted-set size k (suc i) (d ∷ ds) X h lt =
    let there : k + 1 + i ≡ k + suc i = omega arith in
    let rest = weighted size (k + 1) (set ds i (zeros size)) in
    ap (plus (scaled (power k) d)) (weighted-set size (k + 1) i ds X (All-tail (IsSlice size) d ds h) (omega arith))
    ∙ plus_left (scaled (power k) d) (scaled (power (k + 1 + i)) X) rest
    ∙ ap (λ n. plus (scaled (power n) X) (plus (scaled (power k) d) rest)) there

-- Q with a slice in place i is that slice by its power and Q of the others
pub parity_q-set : (size i : ℕ) (ds : List (List ℕ)) (X : List ℕ) → All (IsSlice size) ds → i < length ds
    → parity_q size (set ds i X) ≡ plus (scaled (power i) X) (parity_q size (set ds i (zeros size)))
parity_q-set size i ds X h lt =
    let same : 0 + i ≡ i = omega arith in
    weighted-set size 0 i ds X h lt ∙ ap (λ n. plus (scaled (power n) X) (parity_q size (set ds i (zeros size)))) same

-- ---- a sum that is known less one part is the other

-- one part of a sum is the sum less the other part
pub taken_away : (size : ℕ) (X R S : List ℕ) → IsSlice size X → IsSlice size R → plus X R ≡ S → X ≡ plus S R
taken_away size X R S hX hR e = sym (plus_twice X R (hX.long ∙ sym hR.long)) ∙ ap (λ s. plus s R) e

-- a sum less one part, with the part, is the sum
pub put_back : (size : ℕ) (X R S : List ℕ) → IsSlice size S → IsSlice size R → X ≡ plus S R → plus X R ≡ S
put_back size X R S hS hR e = ap (λ x. plus x R) e ∙ plus_twice S R (hS.long ∙ sym hR.long)

-- slices with zeros in one place are slices
pub cleared : (size i : ℕ) (ds : List (List ℕ)) → All (IsSlice size) ds → All (IsSlice size) (set ds i (zeros size))
cleared size i ds h = All-set (IsSlice size) ds i (zeros size) (zeros_slice size) h

-- the slice in place i is P less the others
pub lost_by_p : LostByP
lost_by_p size i ds P h lt hP =
    let R = parity_p size (set ds i (zeros size)) in
    let hR = parity_p_slice size (set ds i (zeros size)) (cleared size i ds h) in
    record {
      slice = plus_slice size P R hP hR;
      meets = parity_p-set size i ds (plus P R) h lt ∙ put_back size (plus P R) R P hP hR refl;
      only = λ Z hZ e. taken_away size Z R P hZ hR (sym (parity_p-set size i ds Z h lt) ∙ e);
    }

-- 2^i times the slice in place i is Q less the others
pub lost_by_q : LostByQ
lost_by_q size i ds Q X h lt hQ one =
    let R = parity_q size (set ds i (zeros size)) in
    let hR = weighted_slice size 0 (set ds i (zeros size)) (cleared size i ds h) in
    record {
      slice = one.slice;
      meets = parity_q-set size i ds X h lt ∙ put_back size (scaled (power i) X) R Q hQ hR one.meets;
      only = λ Z hZ e. one.only Z hZ (taken_away size (scaled (power i) Z) R Q (scaled_slice size (power i) Z (power-lt i) hZ) hR
          (sym (parity_q-set size i ds Z h lt) ∙ e));
    }

-- ---- two slices among others

module _ (size i j : ℕ) (ds : List (List ℕ)) (h : All (IsSlice size) ds) (li : i < length ds) (lj : j < length ds) (ne : i ≡ j → ⊥) where
  -- the slices with zeros in both lost places
  abbrev others : List (List ℕ)
  others = set (set ds j (zeros size)) i (zeros size)

  -- the others are slices
  others_slices : All (IsSlice size) others
  others_slices = cleared size i (set ds j (zeros size)) (cleared size j ds h)

  -- the places differ in either order
  swapped : j ≡ i → ⊥
  swapped e = ne (sym e)

  -- with a slice in place j, place i is there
  within_first : (Y : List ℕ) → i < length (set ds j Y)
  within_first Y = omega (arith, length-set ds j Y)

  -- with zeros in place i, place j is there
  within_second : j < length (set ds i (zeros size))
  within_second = omega (arith, length-set ds i (zeros size))

  -- zeros in both places, in either order
  to_others : set (set ds i (zeros size)) j (zeros size) ≡ others
  to_others = set_comm ds i j (zeros size) (zeros size) ne

  -- P with slices in both places is their sum and P of the others
  parity_p-both : (X Y : List ℕ) → IsSlice size Y → parity_p size (set (set ds j Y) i X) ≡ plus (plus X Y) (parity_p size others)
  parity_p-both X Y hY =
      parity_p-set size i (set ds j Y) X (All-set (IsSlice size) ds j Y hY h) (within_first Y)
      ∙ ap (λ es. plus X (parity_p size es)) (set_comm ds j i Y (zeros size) swapped)
      ∙ ap (plus X) (parity_p-set size j (set ds i (zeros size)) Y (cleared size i ds h) within_second ∙ ap (λ es. plus Y (parity_p size es)) to_others)
      ∙ sym (plus_assoc X Y (parity_p size others))

  -- Q with slices in both places is their sum by their powers and Q of the others
  parity_q-both : (X Y : List ℕ) → IsSlice size Y → parity_q size (set (set ds j Y) i X)
      ≡ plus (plus (scaled (power i) X) (scaled (power j) Y)) (parity_q size others)
  parity_q-both X Y hY =
      parity_q-set size i (set ds j Y) X (All-set (IsSlice size) ds j Y hY h) (within_first Y)
      ∙ ap (λ es. plus (scaled (power i) X) (parity_q size es)) (set_comm ds j i Y (zeros size) swapped)
      ∙ ap (plus (scaled (power i) X)) (parity_q-set size j (set ds i (zeros size)) Y (cleared size i ds h) within_second
      ∙ ap (λ es. plus (scaled (power j) Y) (parity_q size es)) to_others)
      ∙ sym (plus_assoc (scaled (power i) X) (scaled (power j) Y) (parity_q size others))

  -- the slice whose pair adds up to P and Q less the others is the one that fits both
  pub by_both : (P Q X : List ℕ) → IsSlice size P → IsSlice size Q
      → IsTheOne size (WeighsWith (plus P (parity_p size others)) (plus Q (parity_q size others)) i j) X → IsTheOne size (FitsBoth size ds P Q i j) X
  by_both P Q X hP hQ one =
      let R = parity_p size others in
      let S = parity_q size others in
      let hR : IsSlice size R = parity_p_slice size others others_slices in
      let hS : IsSlice size S = weighted_slice size 0 others others_slices in
      let long : length (plus P R) ≡ size = (plus_slice size P R hP hR).long in
      let Y = one.meets.other in
      let hY : IsSlice size Y = subst (λ n. IsSlice n Y) long one.meets.slice in
      record {
        slice = one.slice;
        meets = record {
          other = Y;
          slice = hY;
          sum = parity_p-both X Y hY ∙ put_back size (plus X Y) R P hP hR one.meets.sum;
          weighted_sum = parity_q-both X Y hY ∙ put_back size (plus (scaled (power i) X) (scaled (power j) Y)) S Q hQ hS one.meets.weighted_sum;
        };
        only = λ Z hZ fits.
            let T = fits.other in
            let sZ = scaled_slice size (power i) Z (power-lt i) hZ in
            let sT = scaled_slice size (power j) T (power-lt j) fits.slice in
            one.only Z hZ (record {
              other = T;
              slice = subst (λ n. IsSlice n T) (sym long) fits.slice;
              sum = taken_away size (plus Z T) R P (plus_slice size Z T hZ fits.slice) hR (sym (parity_p-both Z T fits.slice) ∙ fits.sum);
              weighted_sum = taken_away size (plus (scaled (power i) Z) (scaled (power j) T)) S Q
                  (plus_slice size (scaled (power i) Z) (scaled (power j) T) sZ sT) hS
                  (sym (parity_q-both Z T fits.slice) ∙ fits.weighted_sum);
            });
      }

-- the slices in places i and j are those whose sums are P and Q less the others
pub lost_by_both : LostByBoth
lost_by_both size i j ds P Q X h li lj ne hP hQ one = by_both size i j ds h li lj ne P Q X hP hQ one
