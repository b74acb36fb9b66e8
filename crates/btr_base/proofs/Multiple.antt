-- Multiples of the generator with few terms, and their squares.
use Rattle.std.proofs.Common.{◌≡◌, ℕ, zero, suc, ◌+◌, ◌*◌, ◌/◌, ◌%◌, ◌^◌, ◌<◌, Bool, true, false, cond, eqb, List, [], ◌∷◌, refl, sym, ap, ◌∙◌, arith}
use Rattle.std.specs.Int.Bits.{bit_xor, xor_assoc, xor_self, xor_zero_l, xor_zero_r}
use Rattle.std.proofs.lemmas.Nat.{xor_comm, xor_block}
use Rattle.std.proofs.lemmas.Bool.Decides.{Decides-eqb}
use Rattle.std.proofs.Math.Nat.{pow-suc, add-mul}
use Rattle.std.specs.Bool.{Decides}
use Rattle.btr_base.specs.Crc.{shifted_by}
use Rattle.btr_base.specs.Fold.{far, near}
use Rattle.btr_base.proofs.Linear.{shifted_by-xor, shifted_by-zero, shifted_by-add}

-- the sum of a register shifted by k times each of some numbers
unfoldable pub combined : ℕ → List ℕ → ℕ → ℕ
combined k [] x = 0
combined k (e ∷ es) x = bit_xor (shifted_by (k * e) x) (combined k es x)

-- (a ^ b) ^ (c ^ d) is (a ^ c) ^ (b ^ d)
pub exchange : (a b c d : ℕ) → bit_xor (bit_xor a b) (bit_xor c d) ≡ bit_xor (bit_xor a c) (bit_xor b d)
exchange a b c d =
    xor_assoc a b (bit_xor c d)
    ∙ ap (bit_xor a) (sym (xor_assoc b c d) ∙ ap (λ x. bit_xor x d) (xor_comm b c) ∙ xor_assoc c b d)
    ∙ sym (xor_assoc a c (bit_xor b d))

-- what the exponents make of a sum is the sum of what they make of each
pub combined-xor : (k : ℕ) (es : List ℕ) (x y : ℕ) → combined k es (bit_xor x y) ≡ bit_xor (combined k es x) (combined k es y)
unfolding combined
combined-xor k [] x y = refl
combined-xor k (e ∷ es) x y =
    (λ i. bit_xor (shifted_by-xor (k * e) x y i) (combined-xor k es x y i))
    ∙ exchange (shifted_by (k * e) x) (shifted_by (k * e) y) (combined k es x) (combined k es y)

-- shifting before is shifting after
combined-shifted : (m k : ℕ) (es : List ℕ) (x : ℕ) → combined k es (shifted_by m x) ≡ shifted_by m (combined k es x)
unfolding combined
combined-shifted m k [] x = sym (shifted_by-zero m)
combined-shifted m k (e ∷ es) x =
    let swapped : m + k * e ≡ k * e + m = omega arith in
    (λ i. bit_xor ((sym (shifted_by-add m (k * e) x) ∙ ap (λ n. shifted_by n x) swapped ∙ shifted_by-add (k * e) m x) i) (combined-shifted m k es x i))
    ∙ sym (shifted_by-xor m (shifted_by (k * e) x) (combined k es x))

-- the square of a sum is the sum of the squares
squared : (k : ℕ) (es : List ℕ) (x : ℕ) → combined k es (combined k es x) ≡ combined (k + k) es x
unfolding combined
squared k [] x = refl
squared k (e ∷ es) x =
    let once = shifted_by (k * e) x in
    let rest = combined k es x in
    let both : k * e + k * e ≡ (k + k) * e = sym (add-mul k k e) in
    let across : combined k es once ≡ shifted_by (k * e) rest = combined-shifted (k * e) k es x in
    (λ i. bit_xor (shifted_by-xor (k * e) once rest i) (combined-xor k es once rest i))
    ∙ (λ i. bit_xor (bit_xor (shifted_by (k * e) once) (shifted_by (k * e) rest)) (bit_xor (across i) (combined k es rest)))
    ∙ cancel (shifted_by (k * e) once) (shifted_by (k * e) rest) (combined k es rest)
    ∙ (λ i. bit_xor ((sym (shifted_by-add (k * e) (k * e) x) ∙ ap (λ n. shifted_by n x) both) i) (squared k es x i))
  where
    -- what stands in both sums goes out
    cancel : (a b c : ℕ) → bit_xor (bit_xor a b) (bit_xor b c) ≡ bit_xor a c
    cancel a b c = xor_assoc a b (bit_xor b c) ∙ ap (bit_xor a) (sym (xor_assoc b b c) ∙ ap (λ x. bit_xor x c) (xor_self b) ∙ xor_zero_l c)

-- k times these exponents are those of a multiple of the generator
abbrev pub IsMultiple : ℕ → List ℕ → Type 0
IsMultiple k es = (x : ℕ) → x < 2 ^ 32 → combined k es x ≡ 0

-- what vanishes at each bit below k
abbrev vanishes : (ℕ → ℕ) → ℕ → Bool
vanishes f zero = true
vanishes f (suc k) = cond (eqb (f 1) 0) (vanishes (λ x. f (2 * x)) k) false

-- a function of a sum is the sum of the function's values
abbrev Additive : (ℕ → ℕ) → Type 0
Additive f = (a b : ℕ) → f (bit_xor a b) ≡ bit_xor (f a) (f b)

-- an additive function is 0 at 0
at_zero : (f : ℕ → ℕ) → Additive f → f 0 ≡ 0
at_zero f add = ap f (sym (xor_self 0)) ∙ add 0 0 ∙ xor_self (f 0)

-- an additive function that is 0 at 1 is 0 at a bit
at_bit : (f : ℕ → ℕ) → Additive f → f 1 ≡ 0 → (b : ℕ) → b < 2 → f b ≡ 0
at_bit f add one zero lt = at_zero f add
at_bit f add one (suc zero) lt = one
at_bit f add one (suc (suc b)) lt = absurd (omega arith)

-- where both of two tests hold, what the first one decides holds, and the second test does
pub by_test : {P : Type 0} → (b c : Bool) → Decides b P → cond b c false ≡ true → P × (c ≡ true)
by_test true c d e = (d.0 refl, e)
by_test false c d e = absurd (cc (e))

-- a number is its high bits and its lowest
two_parts : (x : ℕ) → bit_xor (2 * (x / 2)) (x % 2) ≡ x
two_parts x =
    let l : x / 2 * 2 + 0 ≡ 2 * (x / 2) = omega arith in
    let r : 0 * 2 + x % 2 ≡ x % 2 = omega arith in
    let block : bit_xor (x / 2 * 2 + 0) (0 * 2 + x % 2) ≡ bit_xor (x / 2) 0 * 2 + bit_xor 0 (x % 2) =
    xor_block 1 (x / 2) 0 0 (x % 2) (omega arith) (omega arith) in
    let whole : x / 2 * 2 + x % 2 ≡ x = omega arith in
    sym (λ i. bit_xor (l i) (r i)) ∙ block ∙ (λ i. xor_zero_r (x / 2) i * 2 + xor_zero_l (x % 2) i) ∙ whole

-- twice a sum is the sum of the doubles
doubled : (a b : ℕ) → 2 * bit_xor a b ≡ bit_xor (2 * a) (2 * b)
doubled a b =
    let l : a * 2 + 0 ≡ 2 * a = omega arith in
    let r : b * 2 + 0 ≡ 2 * b = omega arith in
    let block : bit_xor (a * 2 + 0) (b * 2 + 0) ≡ bit_xor a b * 2 + bit_xor 0 0 = xor_block 1 a b 0 0 (omega arith) (omega arith) in
    let whole : bit_xor a b * 2 + bit_xor 0 0 ≡ 2 * bit_xor a b = omega (arith, xor_self 0) in
    sym whole ∙ sym block ∙ (λ i. bit_xor (l i) (r i))

-- an additive function that vanishes at each bit vanishes
from_bits : (f : ℕ → ℕ) → ((a b : ℕ) → f (bit_xor a b) ≡ bit_xor (f a) (f b)) → (k : ℕ) → vanishes f k ≡ true → (x : ℕ) → x < 2 ^ k → f x ≡ 0
from_bits f add zero e x lt = ap f (omega arith) ∙ at_zero f add
from_bits f add (suc k) e x lt =
    let half : ℕ → ℕ = λ y. f (2 * y) in
    let low = by_test (eqb (f 1) 0) (vanishes half k) (Decides-eqb (f 1) 0) e in
    let high : f (2 * (x / 2)) ≡ 0 = from_bits half (λ a b. ap f (doubled a b) ∙ add (2 * a) (2 * b)) k low.1 (x / 2) (omega (arith, pow-suc 2 k)) in
    ap f (sym (two_parts x)) ∙ add (2 * (x / 2)) (x % 2) ∙ (λ i. bit_xor (high i) (at_bit f add low.0 (x % 2) (omega arith) i))

-- the far multiple vanishes at each of the 32 bits
far_vanishes : vanishes (combined 1 (561 ∷ far)) 32 ≡ true
unfolding combined shifted_by
far_vanishes = refl

-- the near multiple vanishes at each of the 32 bits
near_vanishes : vanishes (combined 1 (176 ∷ near)) 32 ≡ true
unfolding combined shifted_by
near_vanishes = refl

-- with twice its exponents a multiple is one still
square_vanishes : (es : List ℕ) (k : ℕ) → IsMultiple k es → IsMultiple (k + k) es
square_vanishes es k vanish x lt = sym (squared k es x) ∙ ap (combined k es) (vanish x lt) ∙ at_zero (combined k es) (combined-xor k es)

-- what vanishes at each bit is a multiple, and so is what has eight times its exponents
by_bytes : (es : List ℕ) → vanishes (combined 1 es) 32 ≡ true → IsMultiple 8 es
by_bytes es test =
    square_vanishes es 4 (square_vanishes es 2 (square_vanishes es 1 (from_bits (combined 1 es) (combined-xor 1 es) 32 test)))

-- the far exponents in bytes are those of a multiple of the generator
pub far_is_multiple : IsMultiple 8 (561 ∷ far)
far_is_multiple = by_bytes (561 ∷ far) far_vanishes

-- the near exponents in bytes are those of a multiple of the generator
pub near_is_multiple : IsMultiple 8 (176 ∷ near)
near_is_multiple = by_bytes (176 ∷ near) near_vanishes
