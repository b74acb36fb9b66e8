-- The equations of lost slices, and their solutions.
use Rattle.std.proofs.Common.{◌≡◌, ℕ, ◌<◌, List, [], ◌∷◌, All, length, get_or, refl, sym, ap, ap₂, ◌∙◌, arith, bit_xor, Fits, w8}
use Rattle.std.specs.Int.Bits.{xor_assoc, xor_self, xor_zero_l, xor_zero_r}
use Rattle.std.specs.Simd.Lanes.{zip2}
use Rattle.std.proofs.lemmas.Nat.{xor_comm, xor_lt}
use Rattle.std.proofs.lemmas.List.{length-map}
use Rattle.std.proofs.lemmas.List.Elements.{All-nil, All-cons, All-head, All-tail, All-from_get_or}
use Rattle.std.proofs.lemmas.Simd.{length-zip2}
use Rattle.btr_parity.specs.Field.{product, power}
use Rattle.btr_parity.specs.Slices.{IsSlice, plus, scaled}
use Rattle.btr_parity.specs.Solutions.{IsTheOne, Weighs, WeighsWith}
use Rattle.btr_parity.proofs.Additive.{xor_swap}
use Rattle.btr_parity.proofs.Products.{product-right, product-left, product-lt, product_comm, product_assoc, product-one, power-lt}

-- a number is a byte
abbrev pub IsByte : ℕ → Type 0
IsByte b = b < 256

-- ---- sums of two bytes

-- (a + b) + b is a
pub xor_twice : (a b : ℕ) → bit_xor (bit_xor a b) b ≡ a
xor_twice a b = xor_assoc a b b ∙ ap (bit_xor a) (xor_self b) ∙ xor_zero_r a

-- a + (a + b) is b
pub xor_again : (a b : ℕ) → bit_xor a (bit_xor a b) ≡ b
xor_again a b = sym (xor_assoc a a b) ∙ ap (λ x. bit_xor x b) (xor_self a) ∙ xor_zero_l b

-- bytes that differ have a sum that isn't 0
pub sum_pos : (a b : ℕ) → (a ≡ b → ⊥) → 0 < bit_xor a b
sum_pos a b ne =
    let nonzero : bit_xor a b ≡ 0 → ⊥ = λ e. ne (sym (xor_twice a b) ∙ ap (λ x. bit_xor x b) e ∙ xor_zero_l b) in
    omega arith

-- where a * b is 1, a * (b * c) is c
pub product_undone : (a b c : ℕ) → IsByte a → IsByte b → IsByte c → product a b ≡ 1 → product a (product b c) ≡ c
product_undone a b c la lb lc one = sym (product_assoc a b c la lb lc) ∙ ap (λ x. product x c) one ∙ product-one c lc

-- ---- the pair of equations, at one byte of each slice: a is 2^x, b is 2^y, and w * (a + b) is 1

-- the first of the pair, from their sum u and their weighted sum v
abbrev pub first_of_pair : (a b w : ℕ) → ℕ → ℕ → ℕ
first_of_pair a b w u v = bit_xor (product (product w b) u) (product w v)

module _ (a b w : ℕ) (la : IsByte a) (lb : IsByte b) (lw : IsByte w) (one : product w (bit_xor a b) ≡ 1) where
  -- the first of the pair is w times what is left of the weighted sum
  together : (u v : ℕ) → IsByte u → first_of_pair a b w u v ≡ product w (bit_xor (product b u) v)
  together u v lu = ap (λ x. bit_xor x (product w v)) (product_assoc w b u lw lb lu) ∙ sym ((product-right w).adds (product b u) v)

  -- what b * (s + t) leaves of a * s + b * t is (a + b) * s
  leaves : (s t : ℕ) → bit_xor (product b (bit_xor s t)) (bit_xor (product a s) (product b t)) ≡ product (bit_xor a b) s
  leaves s t =
      ap (λ x. bit_xor x (bit_xor (product a s) (product b t))) ((product-right b).adds s t)
      ∙ xor_swap (product b s) (product b t) (product a s) (product b t)
      ∙ ap (bit_xor (bit_xor (product b s) (product a s))) (xor_self (product b t)) ∙ xor_zero_r (bit_xor (product b s) (product a s))
      ∙ xor_comm (product b s) (product a s) ∙ sym ((product-left s).adds a b)

  -- the sum of the two powers is a byte
  sum-lt : IsByte (bit_xor a b)
  sum-lt = xor_lt 8 a b la lb

  -- from the sums of a pair its first is found
  pub first_found : (s t : ℕ) → IsByte s → IsByte t → first_of_pair a b w (bit_xor s t) (bit_xor (product a s) (product b t)) ≡ s
  first_found s t ls lt =
      together (bit_xor s t) (bit_xor (product a s) (product b t)) (xor_lt 8 s t ls lt) ∙ ap (product w) (leaves s t)
      ∙ product_undone w (bit_xor a b) s lw sum-lt ls one

  -- the second of the pair is what the first leaves of the sum
  abbrev pub second_of_pair : ℕ → ℕ → ℕ
  second_of_pair u v = bit_xor (first_of_pair a b w u v) u

  -- the pair that is found has the sum
  pub first_meets : (u v : ℕ) → bit_xor (first_of_pair a b w u v) (second_of_pair u v) ≡ u
  first_meets u v = xor_again (first_of_pair a b w u v) u

  -- w is the inverse in either order
  turned : product (bit_xor a b) w ≡ 1
  turned = product_comm (bit_xor a b) w sum-lt lw ∙ one

  -- the pair that is found has the weighted sum
  pub second_meets : (u v : ℕ) → IsByte u → IsByte v → bit_xor (product a (first_of_pair a b w u v)) (product b (second_of_pair u v)) ≡ v
  second_meets u v lu lv =
      let s : ℕ = first_of_pair a b w u v in
      let r : ℕ = bit_xor (product b u) v in
      ap (bit_xor (product a s)) ((product-right b).adds s u) ∙ sym (xor_assoc (product a s) (product b s) (product b u))
      ∙ ap (λ x. bit_xor x (product b u)) (sym ((product-left s).adds a b) ∙ ap (product (bit_xor a b)) (together u v lu)
      ∙ product_undone (bit_xor a b) w r sum-lt lw (xor_lt 8 (product b u) v (product-lt b u lb lu) lv) turned)
      ∙ xor_comm r (product b u) ∙ xor_again (product b u) v

  -- the first that is found is a byte
  first-lt : (u v : ℕ) → IsByte u → IsByte v → IsByte (first_of_pair a b w u v)
  first-lt u v lu lv = xor_lt 8 (product (product w b) u) (product w v) (product-lt (product w b) u (product-lt w b lw lb) lu) (product-lt w v lw lv)

  -- the second that is found is a byte
  second-lt : (u v : ℕ) → IsByte u → IsByte v → IsByte (second_of_pair u v)
  second-lt u v lu lv = xor_lt 8 (first_of_pair a b w u v) u (first-lt u v lu lv) lu

-- ---- slices

-- where each number fits in a byte, all are bytes
pub bytes_of : (xs : List ℕ) → ((i : ℕ) → Fits w8 (get_or xs i 0)) → All IsByte xs
bytes_of xs fits = All-from_get_or IsByte xs 0 (λ i h. (fits i).fits)

-- a function of bytes that gives bytes gives them for each pair of two lists
pub All-zip2 : (f : ℕ → ℕ → ℕ) → ((u v : ℕ) → IsByte u → IsByte v → IsByte (f u v)) → (xs ys : List ℕ) → All IsByte xs → All IsByte ys
    → All IsByte (zip2 f xs ys)
All-zip2 f small [] ys h k = All-nil IsByte
All-zip2 f small (x ∷ xs) [] h k = All-nil IsByte
All-zip2 f small (x ∷ xs) (y ∷ ys) h k =
    All-cons IsByte (f x y) (zip2 f xs ys) (small x y (All-head IsByte x xs h) (All-head IsByte y ys k))
    (All-zip2 f small xs ys (All-tail IsByte x xs h) (All-tail IsByte y ys k))

-- a byte times bytes is bytes
pub All-scaled : (c : ℕ) → IsByte c → (xs : List ℕ) → All IsByte xs → All IsByte (scaled c xs)
All-scaled c lc [] h = All-nil IsByte
All-scaled c lc (x ∷ xs) h = All-cons IsByte (product c x) (scaled c xs) (product-lt c x lc (All-head IsByte x xs h))
    (All-scaled c lc xs (All-tail IsByte x xs h))

-- a slice multiplied by a byte and then by its inverse is as it was
pub scaled_undone : (a b : ℕ) → IsByte a → IsByte b → product a b ≡ 1 → (xs : List ℕ) → All IsByte xs → scaled a (scaled b xs) ≡ xs
scaled_undone a b la lb one [] h = refl
scaled_undone a b la lb one (x ∷ xs) h =
    ap₂ (λ y ys. y ∷ ys) (product_undone a b x la lb (All-head IsByte x xs h) one) (scaled_undone a b la lb one xs (All-tail IsByte x xs h))

-- ---- division

-- where d is the inverse of 2^i, d times the given slice is the one that 2^i makes it of
pub weighs_one : (i d : ℕ) (given : List ℕ) → IsByte d → product (power i) d ≡ 1 → All IsByte given → IsTheOne (length given) (Weighs i given) (scaled d given)
weighs_one i d given ld one bytes =
    let back : product d (power i) ≡ 1 = product_comm d (power i) ld (power-lt i) ∙ one in
    record {
      slice = record { long = length-map given (product d); bytes = All-scaled d ld given bytes };
      meets = scaled_undone (power i) d (power-lt i) ld one given bytes;
      only = λ Z slice meets. sym (scaled_undone d (power i) ld (power-lt i) back Z slice.bytes) ∙ ap (scaled d) meets;
    }

-- ---- a pair of slices

module _ (a b w : ℕ) (la : IsByte a) (lb : IsByte b) (lw : IsByte w) (one : product w (bit_xor a b) ≡ 1) where
  -- the first of the pair at one byte
  abbrev one_of : ℕ → ℕ → ℕ
  one_of u v = first_of_pair a b w u v

  -- the other of the pair at one byte
  abbrev other_of : ℕ → ℕ → ℕ
  other_of u v = bit_xor (first_of_pair a b w u v) u

  -- the pair that is found adds up to p
  sums : (p q : List ℕ) → length p ≡ length q → plus (zip2 one_of p q) (zip2 other_of p q) ≡ p
  sums [] [] e = refl
  sums [] (v ∷ q) e = absurd (omega arith)
  sums (u ∷ p) [] e = absurd (omega arith)
  sums (u ∷ p) (v ∷ q) e = ap₂ (λ y ys. y ∷ ys) (xor_again (one_of u v) u) (sums p q (omega arith))

  -- the pair that is found adds up to q by its powers
  weighted_sums : (p q : List ℕ) → length p ≡ length q → All IsByte p → All IsByte q → plus (scaled a (zip2 one_of p q)) (scaled b (zip2 other_of p q)) ≡ q
  weighted_sums [] [] e h k = refl
  weighted_sums [] (v ∷ q) e h k = absurd (omega arith)
  weighted_sums (u ∷ p) [] e h k = absurd (omega arith)
  weighted_sums (u ∷ p) (v ∷ q) e h k =
      ap₂ (λ y ys. y ∷ ys) (second_meets a b w la lb lw one u v (All-head IsByte u p h) (All-head IsByte v q k))
      (weighted_sums p q (omega arith) (All-tail IsByte u p h) (All-tail IsByte v q k))

  -- from the sums of two slices the first is found
  found : (X Y : List ℕ) → length X ≡ length Y → All IsByte X → All IsByte Y → zip2 one_of (plus X Y) (plus (scaled a X) (scaled b Y)) ≡ X
  found [] [] e h k = refl
  found [] (t ∷ Y) e h k = absurd (omega arith)
  found (s ∷ X) [] e h k = absurd (omega arith)
  found (s ∷ X) (t ∷ Y) e h k =
      ap₂ (λ y ys. y ∷ ys) (first_found a b w la lb lw one s t (All-head IsByte s X h) (All-head IsByte t Y k))
      (found X Y (omega arith) (All-tail IsByte s X h) (All-tail IsByte t Y k))

  -- a function of bytes that gives bytes makes a slice of two slices
  slice_of : (f : ℕ → ℕ → ℕ) → ((u v : ℕ) → IsByte u → IsByte v → IsByte (f u v)) → (p q : List ℕ) → length p ≡ length q → All IsByte p → All IsByte q
      → IsSlice (length p) (zip2 f p q)
  slice_of f small p q e h k = record { long = length-zip2 f p q e; bytes = All-zip2 f small p q h k }

  -- the first of the pair that is found is the one that meets both equations
  pub pair_one : (p q : List ℕ) (x y : ℕ) → a ≡ power x → b ≡ power y → length p ≡ length q → All IsByte p → All IsByte q
      → IsTheOne (length p) (WeighsWith p q x y) (zip2 one_of p q)
  pair_one p q x y ea eb e h k = record {
    slice = slice_of one_of (first-lt a b w la lb lw one) p q e h k;
    meets = record {
      other = zip2 other_of p q;
      slice = slice_of other_of (second-lt a b w la lb lw one) p q e h k;
      sum = sums p q e;
      weighted_sum = sym (ap₂ (λ m n. plus (scaled m (zip2 one_of p q)) (scaled n (zip2 other_of p q))) ea eb) ∙ weighted_sums p q e h k;
    };
    only = λ Z slice meets.
        sym (found Z meets.other (slice.long ∙ sym meets.slice.long) slice.bytes meets.slice.bytes)
        ∙ ap₂ (zip2 one_of) meets.sum (ap₂ (λ m n. plus (scaled m Z) (scaled n meets.other)) ea eb ∙ meets.weighted_sum);
  }
