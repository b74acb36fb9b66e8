-- Sums and remainders of polynomials.
use Rattle.std.proofs.Common.{◌≡◌, ℕ, zero, suc, ◌+◌, ◌≤◌, Bool, true, false, cond, List, [], ◌∷◌, ◌++◌, length, refl, sym, ◌∙◌, ap, arith}
use Rattle.std.proofs.lemmas.List.{length-replicate}
use mathlib.Core.Bool.{xor}
use Rattle.btr_base.specs.Poly.{plus, zeros, scaled, times, remainder, IsRemainder}

xor_assoc : (a b c : Bool) → xor (xor a b) c ≡ xor a (xor b c)
unfolding xor
xor_assoc true true true = refl
xor_assoc true true false = refl
xor_assoc true false true = refl
xor_assoc true false false = refl
xor_assoc false true true = refl
xor_assoc false true false = refl
xor_assoc false false true = refl
xor_assoc false false false = refl

-- polynomials are added in any grouping
pub plus_assoc : (p q r : List Bool) → plus (plus p q) r ≡ plus p (plus q r)
unfolding plus
plus_assoc [] q r = refl
plus_assoc (a ∷ p) [] r = refl
plus_assoc (a ∷ p) (b ∷ q) [] = refl
plus_assoc (a ∷ p) (b ∷ q) (c ∷ r) = λ i. xor_assoc a b c i ∷ plus_assoc p q r i

-- a sum is as long as the longer polynomial
pub length-plus : (p q : List Bool) → length p ≤ length q → length (plus p q) ≡ length q
unfolding plus
length-plus [] q le = refl
length-plus (a ∷ p) [] le = absurd (omega arith)
length-plus (a ∷ p) (b ∷ q) le = ap suc (length-plus p q (omega arith))

xor_false : (b : Bool) → xor false b ≡ b
unfolding xor
xor_false true = refl
xor_false false = refl

-- adding the polynomial 0 changes nothing, where it is no longer than the other
pub plus-zeros : (k : ℕ) (q : List Bool) → k ≤ length q → plus (zeros k) q ≡ q
unfolding plus
plus-zeros zero q le = refl
plus-zeros (suc k) [] le = absurd (omega arith)
plus-zeros (suc k) (b ∷ q) le = λ i. xor_false b i ∷ plus-zeros k q (omega arith) i

-- zeros at the end add nothing
pub plus-padded : (p q : List Bool) (k : ℕ) → length p + k ≤ length q → plus (p ++ zeros k) q ≡ plus p q
unfolding plus
plus-padded [] q k le = plus-zeros k q (omega arith)
plus-padded (a ∷ p) [] k le = absurd (omega arith)
plus-padded (a ∷ p) (b ∷ q) k le = ap (λ (l : List Bool). xor a b ∷ l) (plus-padded p q k (omega arith))

pub xor_zero : (b : Bool) → xor b false ≡ b
unfolding xor
xor_zero true = refl
xor_zero false = refl

-- a polynomial with zeros of its length added is itself
pub plus_right_zeros : (p : List Bool) → plus p (zeros (length p)) ≡ p
unfolding plus
plus_right_zeros [] = refl
plus_right_zeros (a ∷ p) = λ i. xor_zero a i ∷ plus_right_zeros p i

-- a polynomial added to as many zeros stands in front of what is behind them
pub plus_front : (p r : List Bool) (k : ℕ) → length p ≡ k → plus p (zeros k ++ r) ≡ p ++ r
unfolding plus
plus_front [] r zero e = refl
plus_front [] r (suc k) e = absurd (omega arith)
plus_front (a ∷ p) r zero e = absurd (omega arith)
plus_front (a ∷ p) r (suc k) e = λ i. xor_zero a i ∷ plus_front p r k (omega arith) i

xor_self : (a b : Bool) → xor a (xor a b) ≡ b
unfolding xor
xor_self true true = refl
xor_self true false = refl
xor_self false true = refl
xor_self false false = refl

-- adding a polynomial twice changes nothing
pub plus_twice : (p q : List Bool) → length p ≤ length q → plus p (plus p q) ≡ q
unfolding plus
plus_twice [] q le = refl
plus_twice (a ∷ p) [] le = absurd (omega arith)
plus_twice (a ∷ p) (b ∷ q) le = λ i. xor_self a b i ∷ plus_twice p q (omega arith) i

-- adding the generator or not is adding it once or no times
scaled_sum : (c : Bool) (g p : List Bool) → length g ≤ length p → cond c (plus g p) p ≡ plus (scaled c g) p
scaled_sum true g p le = refl
scaled_sum false g p le = sym (plus-zeros (length g) p le)

length-scaled : (c : Bool) (g : List Bool) → length (scaled c g) ≡ length g
length-scaled true g = refl
length-scaled false g = length-replicate (length g) false

-- long division leaves a remainder
pub divided : (n : ℕ) (p g : List Bool) → length p ≡ n + length g → IsRemainder p g (remainder n p g)
unfolding plus times remainder xor
divided zero p g e = record { quotient = []; degree = omega arith; size = e; whole = sym (plus-zeros (length g) p (omega arith)) }
divided (suc n) [] g e = absurd (omega arith)
divided (suc n) (c ∷ p) g e =
    let rest = cond c (plus g p) p in
    let sum : rest ≡ plus (scaled c g) p = scaled_sum c g p (omega arith) in
    let wide : length (scaled c g) ≤ length p = omega (arith, length-scaled c g) in
    let same : length rest ≡ length p = ap length sum ∙ length-plus (scaled c g) p wide in
    let below = divided n rest g (omega (arith, same)) in
    let q = below.quotient in
    let left : List Bool = zeros (length q) ++ remainder n rest g in
    let sized : length p ≡ length q + length g = omega (arith, below.size, same) in
    let back : plus (scaled c g ++ zeros (length q)) rest ≡ p =
    plus-padded (scaled c g) rest (length q) (omega (arith, length-scaled c g, same, sized))
    ∙ ap (plus (scaled c g)) sum ∙ plus_twice (scaled c g) p wide in
    record {
      quotient = c ∷ q;
      degree = below.degree;
      size = omega (arith, sized);
      whole = sym (plus_assoc (c ∷ scaled c g ++ zeros (length q)) (false ∷ times q g) (false ∷ left)
          ∙ (λ i. xor_zero c i ∷ plus (scaled c g ++ zeros (length q)) (sym below.whole i))
          ∙ ap (λ (l : List Bool). c ∷ l) back);
    }
