-- P and Q, slice by slice; and that the equations of lost slices have solutions.
use Rattle.std.proofs.Common.{◌≡◌, ℕ, suc, ◌+◌, ◌^◌, ◌<◌, List, [], ◌∷◌, ◌++◌, All, length, get_or, take, refl, sym, ap, ap₂, ◌∙◌, subst, ⊎_elim, arith}
use Rattle.std.proofs.Common.{bit_xor}
use Rattle.std.specs.Simd.Lanes.{zip2}
use Rattle.std.proofs.lemmas.Bool.{cases_eq}
use Rattle.std.proofs.lemmas.Nat.{xor_lt}
use Rattle.std.proofs.lemmas.List.{take_more, take_all, length-take-le}
use Rattle.std.proofs.lemmas.List.Elements.{All-head, All-tail, All-get_or, All-take}
use Rattle.btr_parity.specs.Field.{product, power}
use Rattle.btr_parity.specs.Slices.{IsSlice, zeros, plus, scaled, parity_p, weighted, parity_q}
use Rattle.btr_parity.specs.Solutions.{IsTheOne, Weighs, WeighsWith}
use Rattle.btr_parity.specs.Laws.{ProductsKeepSums, PowersDiffer, QuotientIsOne, PairIsOne, ParityByFolding, FoldingOntoP, FoldingOntoQ}
use Rattle.btr_parity.specs.declared.tables.TheConstants.{INVERSES}
use Rattle.btr_parity.proofs.Products.{product-right, product_comm, product_assoc, product-one, power-lt}
use Rattle.btr_parity.proofs.Entries.{product-INVERSES, powers_differ, power_pos, inverse-lt}
use Rattle.btr_parity.proofs.Solving.{IsByte, sum_pos, first_of_pair, weighs_one, pair_one}
use Rattle.btr_parity.proofs.Lost.{plus_comm, plus_assoc, plus-zeros, scaled-plus, scaled-zeros, parity_p_slice, weighted_slice}

-- ---- slice by slice

-- P with one more slice at the end is P and the slice
p_of_one_more : (size : ℕ) (ds : List (List ℕ)) (d : List ℕ) → IsSlice size d → parity_p size (ds ++ d ∷ []) ≡ plus (parity_p size ds) d
unfolding parity_p
p_of_one_more size [] d h = plus_comm d (zeros size)
p_of_one_more size (e ∷ ds) d h = ap (plus e) (p_of_one_more size ds d h) ∙ sym (plus_assoc e (parity_p size ds) d)

-- the weighted sum with one more slice at the end is the sum and that slice by its power
weighted_one_more : (size k : ℕ) (ds : List (List ℕ)) (d : List ℕ) → weighted size k (ds ++ d ∷ [])
    ≡ plus (weighted size k ds) (scaled (power (k + length ds)) d)
unfolding weighted
weighted_one_more size k [] d =
    let here : k ≡ k + 0 = omega arith in
    plus_comm (scaled (power k) d) (zeros size) ∙ ap (λ n. plus (zeros size) (scaled (power n) d)) here
weighted_one_more size k (e ∷ ds) d =
    let there : k + 1 + length ds ≡ k + suc (length ds) = omega arith in
    ap (plus (scaled (power k) e)) (weighted_one_more size (k + 1) ds d)
    ∙ sym (plus_assoc (scaled (power k) e) (weighted size (k + 1) ds) (scaled (power (k + 1 + length ds)) d))
    ∙ ap (λ n. plus (plus (scaled (power k) e) (weighted size (k + 1) ds)) (scaled (power n) d)) there

-- Q with one more slice at the end is Q and the slice by its power
q_of_one_more : (size : ℕ) (ds : List (List ℕ)) (d : List ℕ) → parity_q size (ds ++ d ∷ []) ≡ plus (parity_q size ds) (scaled (power (length ds)) d)
q_of_one_more size ds d =
    let same : 0 + length ds ≡ length ds = omega arith in
    weighted_one_more size 0 ds d ∙ ap (λ n. plus (parity_q size ds) (scaled (power n) d)) same

-- 2^(k + 1) times a slice is twice 2^k times it
scaled_twice : (k : ℕ) (xs : List ℕ) → All IsByte xs → scaled (power (k + 1)) xs ≡ scaled 2 (scaled (power k) xs)
unfolding power
scaled_twice k [] h = refl
scaled_twice k (x ∷ xs) h =
    let more : k + 1 ≡ suc k = omega arith in
    ap₂ (λ y ys. y ∷ ys) (ap (λ n. product (power n) x) more ∙ product_assoc 2 (power k) x (omega arith) (power-lt k) (All-head IsByte x xs h))
    (scaled_twice k xs (All-tail IsByte x xs h))

-- 2^0 times a slice is the slice
scaled_once : (xs : List ℕ) → All IsByte xs → scaled (power 0) xs ≡ xs
unfolding power
scaled_once [] h = refl
scaled_once (x ∷ xs) h = ap₂ (λ y ys. y ∷ ys) (product-one x (All-head IsByte x xs h)) (scaled_once xs (All-tail IsByte x xs h))

-- weights that begin one power later make twice the sum
weighted_next : (size k : ℕ) (ds : List (List ℕ)) → All (IsSlice size) ds → weighted size (k + 1) ds ≡ scaled 2 (weighted size k ds)
unfolding weighted
weighted_next size k [] h = sym (scaled-zeros 2 size)
weighted_next size k (d ∷ ds) h =
    ap₂ plus (scaled_twice k d (All-head (IsSlice size) d ds h).bytes) (weighted_next size (k + 1) ds (All-tail (IsSlice size) d ds h))
    ∙ sym (scaled-plus 2 (scaled (power k) d) (weighted size (k + 1) ds))

-- Q with one more slice in front is twice Q and the slice
q_of_one_before : (size : ℕ) (ds : List (List ℕ)) (d : List ℕ) → All (IsSlice size) ds → IsSlice size d → parity_q size (d ∷ ds)
    ≡ plus (scaled 2 (parity_q size ds)) d
unfolding weighted
q_of_one_before size ds d h hd =
    ap₂ plus (scaled_once d hd.bytes) (weighted_next size 0 ds h) ∙ plus_comm d (scaled 2 (parity_q size ds))

-- P and Q are made slice by slice
pub parity_by_folding : ParityByFolding
unfolding parity_p weighted
parity_by_folding = record {
  p_of_none = λ size. refl;
  q_of_none = λ size. refl;
  p_of_one_more = p_of_one_more;
  q_of_one_more = λ size ds d h. q_of_one_more size ds d;
  q_of_one_before = q_of_one_before;
}

-- ---- onto a slice

-- one slice more of a list
front_more : (ds : List (List ℕ)) (k : ℕ) → k < length ds → take (k + 1) ds ≡ take k ds ++ get_or ds k [] ∷ []
front_more ds k lt = take_more ds k [] lt

-- a loop that adds slices to P has added the first of them
pub folding_onto_p : FoldingOntoP
unfolding parity_p
folding_onto_p = record {
  none = λ size ds P h. plus-zeros P size h.long;
  one_more = λ size k ds P h lt.
      let d = get_or ds k [] in
      plus_assoc P (parity_p size (take k ds)) d
      ∙ ap (plus P) (sym (ap (parity_p size) (front_more ds k lt) ∙ p_of_one_more size (take k ds) d (All-get_or (IsSlice size) ds k [] lt h)));
  left_out = λ size k ds P h lt e.
      let d = get_or ds k [] in
      let hd = All-get_or (IsSlice size) ds k [] lt h in
      let long = (parity_p_slice size (take k ds) (All-take (IsSlice size) k ds h)).long in
      ap (plus P) (sym (ap (parity_p size) (front_more ds k lt) ∙ p_of_one_more size (take k ds) d hd ∙ ap (plus (parity_p size (take k ds))) e
      ∙ plus-zeros (parity_p size (take k ds)) size long));
  from_zeros = λ size ds h. ap (λ l. plus (zeros size) (parity_p size l)) (take_all (length ds) ds (omega arith))
      ∙ plus_comm (zeros size) (parity_p size ds) ∙ plus-zeros (parity_p size ds) size (parity_p_slice size ds h).long;
}

-- Q of one slice more
q_front_more : (size k : ℕ) (ds : List (List ℕ)) → k < length ds → parity_q size (take (k + 1) ds)
    ≡ plus (parity_q size (take k ds)) (scaled (power k) (get_or ds k []))
q_front_more size k ds lt =
    let long : length (take k ds) ≡ k = length-take-le k ds (omega arith) in
    ap (parity_q size) (front_more ds k lt) ∙ q_of_one_more size (take k ds) (get_or ds k [])
    ∙ ap (λ n. plus (parity_q size (take k ds)) (scaled (power n) (get_or ds k []))) long

-- a loop that adds slices to Q has added the first of them by their powers
pub folding_onto_q : FoldingOntoQ
unfolding weighted
folding_onto_q = record {
  none = λ size ds Q h. plus-zeros Q size h.long;
  one_more = λ size k ds Q h lt. plus_assoc Q (parity_q size (take k ds)) (scaled (power k) (get_or ds k [])) ∙ ap (plus Q) (sym (q_front_more size k ds lt));
  left_out = λ size k ds Q h lt e.
      let long = (weighted_slice size 0 (take k ds) (All-take (IsSlice size) k ds h)).long in
      ap (plus Q) (sym (q_front_more size k ds lt ∙ ap (λ d. plus (parity_q size (take k ds)) (scaled (power k) d)) e
      ∙ ap (plus (parity_q size (take k ds))) (scaled-zeros (power k) size) ∙ plus-zeros (parity_q size (take k ds)) size long));
  from_zeros = λ size ds h. ap (λ l. plus (zeros size) (parity_q size l)) (take_all (length ds) ds (omega arith))
      ∙ plus_comm (zeros size) (parity_q size ds) ∙ plus-zeros (parity_q size ds) size (weighted_slice size 0 ds h).long;
}

-- ---- solutions

-- 2^i times a sum is the sum of the products, of bytes and of slices
pub products_keep_sums : ProductsKeepSums
products_keep_sums = record { of_bytes = λ i a b. (product-right (power i)).adds a b; of_slices = λ i xs ys. scaled-plus (power i) xs ys }

-- 2^0 to 2^62 differ, and none is 0
pub powers_differ_law : PowersDiffer
powers_differ_law = record {
  nonzero = λ i h e. let pos : 0 < power i = power_pos i (omega arith) in absurd (omega arith);
  differ = λ i j h k same. ⊎_elim (λ e. e) (λ ne. absurd (powers_differ i j (omega arith) (omega arith) ne same)) (cases_eq i j);
}

-- 2^i * X = c has one solution, where i is at most 62
pub quotient_is_one : QuotientIsOne
quotient_is_one size i c h slice =
    let p = power i in
    let d = get_or INVERSES p 0 in
    let one : product p d ≡ 1 = product-INVERSES p (power_pos i (omega arith)) (power-lt i) in
    (scaled d c, subst (λ n. IsTheOne n (Weighs i c) (scaled d c)) slice.long (weighs_one i d c (inverse-lt p) one slice.bytes))

-- X + Y = p and 2^x * X + 2^y * Y = q have one solution, where x and y differ and are at most 62
pub pair_is_one : PairIsOne
pair_is_one size x y p q hx hy ne hp hq =
    let a = power x in
    let b = power y in
    let s = bit_xor a b in
    let w = get_or INVERSES s 0 in
    let small : s < 2 ^ 8 = xor_lt 8 a b (power-lt x) (power-lt y) in
    let apart = sum_pos a b (powers_differ x y (omega arith) (omega arith) ne) in
    let one : product w s ≡ 1 = product_comm w s (inverse-lt s) small ∙ product-INVERSES s apart small in
    let X = zip2 (first_of_pair a b w) p q in (
      X,
      subst (λ n. IsTheOne n (WeighsWith p q x y) X) hp.long
          (pair_one a b w (power-lt x) (power-lt y) (inverse-lt s) one p q x y refl refl (hp.long ∙ sym hq.long) hp.bytes hq.bytes),
    )
