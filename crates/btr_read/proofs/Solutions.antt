-- The solutions of two pairs of equations, one after the other, solve the pair of their ends put together.
use Rattle.std.proofs.Common.{◌≡◌, ◌≢◌, ℕ, zero, suc, ◌+◌, ◌-◌, ◌<◌, ◌≤◌, List, [], ◌∷◌, ◌++◌, length, take, drop, refl, sym, ap, ap₂, ◌∙◌, subst, arith}
use Rattle.std.proofs.Common.{length-append, length-take, length-drop, bit_xor}
use Rattle.std.proofs.lemmas.List.{take_at, drop_at, map-append, take-map, drop-map, take-append-drop, length-map}
use Rattle.std.proofs.lemmas.List.Elements.{All-append, All-take, All-drop}
use Rattle.std.proofs.lemmas.Simd.{length-zip2}
use Rattle.std.specs.List.{slice_range}
use Rattle.btr_parity.specs.Field.{product, power}
use Rattle.btr_parity.specs.Slices.{IsSlice, plus, scaled}
use Rattle.btr_parity.specs.Solutions.{IsTheOne, WeighsWith}
use Rattle.btr_pool.specs.Slots.{Slots, IsLive, bytes_at, with_bytes}
use Rattle.btr_rack.specs.Rack.{pasted}
use Rattle.btr_read.proofs.Pieces.{plus-append, take_on, length-slice_range, length-first, WrittenSoFar, size_now, range_now, other_now, long_enough}
use Rattle.btr_read.proofs.Pieces.{written_more}

-- a number is a byte
abbrev IsByte : ℕ → Type 0
IsByte b = b < 256

-- ---- slices of two parts

-- two slices put together are a slice of both lengths
slice_of_parts : (n m : ℕ) (X Y : List ℕ) → IsSlice n X → IsSlice m Y → IsSlice (n + m) (X ++ Y)
slice_of_parts n m X Y h g = record { long = omega (arith, length-append X Y, h.long, g.long); bytes = All-append IsByte X Y h.bytes g.bytes }

-- the first part of a slice is a slice
first_part : (n m : ℕ) (X : List ℕ) → IsSlice (n + m) X → IsSlice n (take n X)
first_part n m X h = record { long = omega (arith, length-take n X, h.long); bytes = All-take IsByte n X h.bytes }

-- what stands behind the first part of a slice is a slice
second_part : (n m : ℕ) (X : List ℕ) → IsSlice (n + m) X → IsSlice m (drop n X)
second_part n m X h = record { long = omega (arith, length-drop n X, h.long); bytes = All-drop IsByte n X h.bytes }

-- ---- sums of parts

-- the first part of a sum is the sum of the first parts
take-plus : (n : ℕ) (xs ys : List ℕ) → take n (plus xs ys) ≡ plus (take n xs) (take n ys)
take-plus zero xs ys = refl
take-plus (suc n) [] ys = refl
take-plus (suc n) (x ∷ xs) [] = refl
take-plus (suc n) (x ∷ xs) (y ∷ ys) = ap (λ rest. bit_xor x y ∷ rest) (take-plus n xs ys)

-- a sum with an empty list is empty
plus-nil : (xs : List ℕ) → plus xs [] ≡ []
plus-nil [] = refl
plus-nil (x ∷ xs) = refl

-- what stands behind the first part of a sum is the sum of what stands behind the first parts
drop-plus : (n : ℕ) (xs ys : List ℕ) → drop n (plus xs ys) ≡ plus (drop n xs) (drop n ys)
drop-plus zero xs ys = refl
drop-plus (suc n) [] ys = refl
drop-plus (suc n) (x ∷ xs) [] = sym (plus-nil (drop n xs))
drop-plus (suc n) (x ∷ xs) (y ∷ ys) = drop-plus n xs ys

-- the sum of two slices, weighted by their numbers
abbrev weighted_sum : ℕ → ℕ → List ℕ → List ℕ → List ℕ
weighted_sum x y X Y = plus (scaled (power x) X) (scaled (power y) Y)

-- the weighted sum of slices put together is that of their weighted sums
weighted_sum-append : (x y : ℕ) (X Y X' Y' : List ℕ) → length X ≡ length Y → weighted_sum x y (X ++ X') (Y ++ Y') ≡ weighted_sum x y X Y
    ++ weighted_sum x y X' Y'
weighted_sum-append x y X Y X' Y' e =
    ap₂ plus (map-append (product (power x)) X X') (map-append (product (power y)) Y Y')
    ∙ plus-append (scaled (power x) X) (scaled (power y) Y) (scaled (power x) X') (scaled (power y) Y')
    (length-map X (product (power x)) ∙ e ∙ sym (length-map Y (product (power y))))

-- the first part of a weighted sum is that of the first parts
take-weighted_sum : (n x y : ℕ) (X Y : List ℕ) → take n (weighted_sum x y X Y) ≡ weighted_sum x y (take n X) (take n Y)
take-weighted_sum n x y X Y = take-plus n (scaled (power x) X) (scaled (power y) Y)
    ∙ ap₂ plus (take-map (product (power x)) n X) (take-map (product (power y)) n Y)

-- what stands behind the first part of a weighted sum is the weighted sum of what stands behind the first parts
drop-weighted_sum : (n x y : ℕ) (X Y : List ℕ) → drop n (weighted_sum x y X Y) ≡ weighted_sum x y (drop n X) (drop n Y)
drop-weighted_sum n x y X Y = drop-plus n (scaled (power x) X) (scaled (power y) Y)
    ∙ ap₂ plus (drop-map (product (power x)) n X) (drop-map (product (power y)) n Y)

-- a weighted sum of two slices is as long as they are
length-weighted_sum : (n x y : ℕ) (X Y : List ℕ) → length X ≡ n → length Y ≡ n → length (weighted_sum x y X Y) ≡ n
length-weighted_sum n x y X Y ex ey =
    let scaled_long : length (scaled (power x) X) ≡ n = length-map X (product (power x)) ∙ ex in
    let other_long : length (scaled (power y) Y) ≡ n = length-map Y (product (power y)) ∙ ey in
    length-zip2 bit_xor (scaled (power x) X) (scaled (power y) Y) (scaled_long ∙ sym other_long) ∙ scaled_long

-- ---- solutions of parts

module _ (n m x y : ℕ) (p q p' q' X X' : List ℕ) (long : length p ≡ n) (long' : length p' ≡ m) (h : IsTheOne n (WeighsWith p q x y) X)
    (h' : IsTheOne m (WeighsWith p' q' x y) X') where
  -- the second slice of the first solution
  abbrev Y : List ℕ
  Y = h.meets.other

  -- the second slice of the second solution
  abbrev Y' : List ℕ
  Y' = h'.meets.other

  -- what Q left of the first part is as long as the part
  weighted_long : length q ≡ n
  weighted_long = sym (ap length h.meets.weighted_sum) ∙ length-weighted_sum n x y X Y h.slice.long (h.meets.slice.long ∙ long)

  -- what P left of both parts is as long as both
  whole_long : length (p ++ p') ≡ n + m
  whole_long = omega (arith, length-append p p', long, long')

  -- the two solutions put together solve the equations put together
  solves : WeighsWith (p ++ p') (q ++ q') x y (X ++ X')
  solves =
      let even : length X ≡ length Y = h.slice.long ∙ sym (h.meets.slice.long ∙ long) in
      record {
        other = Y ++ Y';
        slice = subst (λ k. IsSlice k (Y ++ Y')) (sym (length-append p p')) (slice_of_parts (length p) (length p') Y Y' h.meets.slice h'.meets.slice);
        sum = plus-append X Y X' Y' even ∙ ap₂ (λ a b. a ++ b) h.meets.sum h'.meets.sum;
        weighted_sum = weighted_sum-append x y X Y X' Y' even ∙ ap₂ (λ a b. a ++ b) h.meets.weighted_sum h'.meets.weighted_sum;
      }

  -- the parts of any solution solve the parts
  first_solves : (Z : List ℕ) → IsSlice (n + m) Z → WeighsWith (p ++ p') (q ++ q') x y Z → take n Z ≡ X
  first_solves Z slice w =
      let other : IsSlice (n + m) w.other = subst (λ k. IsSlice k w.other) whole_long w.slice in
      h.only (take n Z) (first_part n m Z slice) (record {
        other = take n w.other;
        slice = subst (λ k. IsSlice k (take n w.other)) (sym long) (first_part n m w.other other);
        sum = sym (take-plus n Z w.other) ∙ ap (take n) w.sum ∙ take_at p p' n long;
        weighted_sum = sym (take-weighted_sum n x y Z w.other) ∙ ap (take n) w.weighted_sum ∙ take_at q q' n weighted_long;
      })

  -- the second part of any solution of both is the solution of the second
  second_solves : (Z : List ℕ) → IsSlice (n + m) Z → WeighsWith (p ++ p') (q ++ q') x y Z → drop n Z ≡ X'
  second_solves Z slice w =
      let other : IsSlice (n + m) w.other = subst (λ k. IsSlice k w.other) whole_long w.slice in
      h'.only (drop n Z) (second_part n m Z slice) (record {
        other = drop n w.other;
        slice = subst (λ k. IsSlice k (drop n w.other)) (sym long') (second_part n m w.other other);
        sum = sym (drop-plus n Z w.other) ∙ ap (drop n) w.sum ∙ drop_at p p' n long;
        weighted_sum = sym (drop-weighted_sum n x y Z w.other) ∙ ap (drop n) w.weighted_sum ∙ drop_at q q' n weighted_long;
      })

  -- the solutions of both parts put together are the one solution of the whole
  pub solved_on : IsTheOne (n + m) (WeighsWith (p ++ p') (q ++ q') x y) (X ++ X')
  solved_on = record {
    slice = slice_of_parts n m X X' h.slice h'.slice;
    meets = solves;
    only = λ Z slice w. sym (take-append-drop n Z) ∙ ap₂ (λ a b. a ++ b) (first_solves Z slice w) (second_solves Z slice w);
  }

-- ---- slots

-- the first bytes of slot k, of P, were made those of the first slice, where slot j has those of Q
abbrev pub SolvedSoFar : ℕ → ℕ → ℕ → ℕ → ℕ → Slots → Slots → Type 0
SolvedSoFar x y k j done old now = WrittenSoFar (IsTheOne done (WeighsWith (take done (bytes_at old k)) (take done (bytes_at old j)) x y)) k done old now

module _ (x y k j done end : ℕ) (old now after : Slots) (live : IsLive old k) (apart : k ≢ j) (lt : done < end) (fits : end ≤ old.size)
    (h : SolvedSoFar x y k j done old now) (long : length (bytes_at now k) ≡ now.size) where
  -- what was written is the one first slice, of as many bytes as are done
  abbrev MeetsNow : List ℕ → Type 0
  MeetsNow = IsTheOne done (WeighsWith (take done (bytes_at old k)) (take done (bytes_at old j)) x y)

  -- what was written is the one first slice up to the next piece's end
  abbrev MeetsNext : List ℕ → Type 0
  MeetsNext = IsTheOne end (WeighsWith (take end (bytes_at old k)) (take end (bytes_at old j)) x y)

  size_same : now.size ≡ old.size
  size_same = size_now MeetsNow k done old now live h

  whole : done + (end - done) ≡ end
  whole = omega (arith, lt)

  -- the slot of P had bytes up to the next piece's end
  first_long : end ≤ length (bytes_at old k)
  first_long = long_enough MeetsNow k done old now live h end lt (omega (arith, fits, long, size_same))

  -- with the solution of the next piece, what was written is the one first slice up to its end
  meets_next : (X : List ℕ) → IsTheOne (end - done) (WeighsWith (slice_range (bytes_at now k) done end) (slice_range (bytes_at now j) done end) x y) X
      → MeetsNext (h.written ++ X)
  meets_next X one =
      let ps = bytes_at old k in
      let qs = bytes_at old j in
      let le : done ≤ end = omega (arith, lt) in
      let of_old : IsTheOne (end - done) (WeighsWith (slice_range ps done end) (slice_range qs done end) x y) X =
      subst (λ q. IsTheOne (end - done) (WeighsWith (slice_range ps done end) (slice_range q done end) x y) X)
      (other_now MeetsNow k done old now live h j (λ e. apart (sym e)))
      (subst (λ p. IsTheOne (end - done) (WeighsWith p (slice_range (bytes_at now j) done end) x y) X) (range_now MeetsNow k done old now live h end) one)
      in
      let both = solved_on done (end - done) x y (take done ps) (take done qs) (slice_range ps done end) (slice_range qs done end) h.written X
      (length-first ps done (omega (arith, lt, first_long))) (length-slice_range ps done end first_long) h.meets of_old in
      subst (λ n. IsTheOne n (WeighsWith (take end ps) (take end qs) x y) (h.written ++ X)) whole
      (subst (λ q. IsTheOne (done + (end - done)) (WeighsWith (take end ps) q x y) (h.written ++ X)) (sym (take_on qs done end le))
      (subst (λ p. IsTheOne (done + (end - done)) (WeighsWith p (take done qs ++ slice_range qs done end) x y) (h.written ++ X))
      (sym (take_on ps done end le)) both))

  -- those of the piece behind them too
  pub solved_more : (X : List ℕ) → IsTheOne (end - done) (WeighsWith (slice_range (bytes_at now k) done end) (slice_range (bytes_at now j) done end) x
      y) X → after ≡ with_bytes now k (pasted (bytes_at now k) done X) → SolvedSoFar x y k j end old after
  solved_more X one e = written_more MeetsNow k done old now live h MeetsNext end X after (omega (arith, lt, one.slice.long)) e (meets_next X one)
