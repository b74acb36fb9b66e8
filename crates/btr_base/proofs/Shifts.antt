-- A register that is shifted, and the remainder.
use Rattle.std.proofs.Common.{◌≡◌, ℕ, zero, suc, ◌+◌, ◌*◌, ◌/◌, ◌%◌, ◌^◌, ◌≤◌, ◌<◌, Bool, true, false, cond, eqb, List, [], ◌∷◌, ◌++◌, length, refl, sym, ◌∙◌}
use Rattle.std.proofs.Common.{ap, subst, arith, length-append, bit_xor}
use Rattle.std.proofs.lemmas.List.{length-replicate, append_assoc}
use Rattle.std.proofs.lemmas.Nat.{xor_shr, xor_mod, xor_lt}
use Rattle.std.proofs.Math.Nat.{pow-suc}
use mathlib.Core.Bool.{xor}
use Rattle.btr_base.specs.Poly.{plus, zeros, remainder, bits, number, message, IsRemainder}
use Rattle.btr_base.specs.Crc.{generator, dividend, register, shifted, shifted_by}
use Rattle.btr_base.proofs.Division.{divided, length-plus, plus_assoc, plus-padded, plus_right_zeros, plus_front, xor_zero}

-- a number's k low bits are k
pub length-bits : (k n : ℕ) → length (bits k n) ≡ k
unfolding bits
length-bits zero n = refl
length-bits (suc k) n = ap suc (length-bits k (n / 2))

-- of two bits the sum is 1 where just one of them is
low_xor_of : (x y : ℕ) → x < 2 → y < 2 → eqb (bit_xor x y) 1 ≡ xor (eqb x 1) (eqb y 1)
unfolding xor
low_xor_of zero zero p q = refl
low_xor_of zero (suc zero) p q = refl
low_xor_of zero (suc (suc y)) p q = absurd (omega arith)
low_xor_of (suc zero) zero p q = refl
low_xor_of (suc zero) (suc zero) p q = refl
low_xor_of (suc zero) (suc (suc y)) p q = absurd (omega arith)
low_xor_of (suc (suc x)) y p q = absurd (omega arith)

-- the lowest bit of a sum
pub low_xor : (a b : ℕ) → eqb (bit_xor a b % 2) 1 ≡ xor (eqb (a % 2) 1) (eqb (b % 2) 1)
low_xor a b = ap (λ n. eqb n 1) (xor_mod a b 1) ∙ low_xor_of (a % 2) (b % 2) (omega arith) (omega arith)

-- the low bits of a sum are the sum of the low bits
pub bits-xor : (k a b : ℕ) → bits k (bit_xor a b) ≡ plus (bits k a) (bits k b)
unfolding bits plus
bits-xor zero a b = refl
bits-xor (suc k) a b = λ i. low_xor a b i ∷ (ap (bits k) (xor_shr a b 1) ∙ bits-xor k (a / 2) (b / 2)) i

-- all bits of 0 are zeros
bits_none : (k : ℕ) → bits k 0 ≡ zeros k
unfolding bits
bits_none zero = refl
bits_none (suc k) = ap (λ (l : List Bool). false ∷ l) (bits_none k)

-- past the highest bit there are zeros
pub bits_high : (j k n : ℕ) → n < 2 ^ j → bits (j + k) n ≡ bits j n ++ zeros k
unfolding bits
bits_high zero k n lt = let none : n ≡ 0 = omega arith in let same : 0 + k ≡ k = omega arith in ap (λ j. bits j n) same ∙ ap (bits k) none ∙ bits_none k
bits_high (suc j) k n lt =
    let same : suc j + k ≡ suc (j + k) =
    omega arith in ap (λ m. bits m n) same ∙ ap (λ (l : List Bool). eqb (n % 2) 1 ∷ l) (bits_high j k (n / 2) (omega (arith, pow-suc 2 j)))

-- a bit is 1 or 0 as the test of it says
low_bit : (n : ℕ) → n < 2 → cond (eqb n 1) 1 0 ≡ n
low_bit zero lt = refl
low_bit (suc zero) lt = refl
low_bit (suc (suc n)) lt = absurd (omega arith)

-- a number that fits in k bits is the number of those bits
pub number-bits : (k n : ℕ) → n < 2 ^ k → number (bits k n) ≡ n
unfolding bits number
number-bits zero n lt = omega arith
number-bits (suc k) n lt = omega (arith, number-bits k (n / 2) (omega (arith, pow-suc 2 k)), low_bit (n % 2) (omega arith))

module _ (k poly : ℕ) (fits : poly < 2 ^ suc k) where
  -- one more bit that is 0, for a register of k + 1 bits
  abbrev pub shift : ℕ → ℕ
  shift reg = cond (eqb (reg % 2) 1) (bit_xor poly (reg / 2)) (reg / 2)

  -- without its lowest bit a register fits in one bit less
  half : (reg : ℕ) → reg < 2 ^ suc k → reg / 2 < 2 ^ k
  half reg lt = omega (arith, pow-suc 2 k)

  -- the register fits in its bits after one more bit
  pub shift_lt : (reg : ℕ) → reg < 2 ^ suc k → shift reg < 2 ^ suc k
  shift_lt reg lt = elim (eqb (reg % 2) 1) as (λ b. cond b (bit_xor poly (reg / 2)) (reg / 2) < 2 ^ suc k) [
    | true ↦ xor_lt (suc k) poly (reg / 2) fits (omega (arith, half reg lt, pow-suc 2 k))
    | false ↦ omega (arith, half reg lt, pow-suc 2 k)
  ]

  -- the highest bit of k + 1 adds nothing where the number has k
  padded : (n : ℕ) (rest : List Bool) → n < 2 ^ k → suc k ≤ length rest → plus (bits k n) rest ≡ plus (bits (suc k) n) rest
  padded n rest lt wide =
      sym (plus-padded (bits k n) rest 1 (omega (arith, length-bits k n)))
      ∙ ap (λ (l : List Bool). plus l rest) (sym (bits_high k 1 n lt)) ∙ ap (λ j. plus (bits j n) rest) (omega arith)

  -- the bits of the polynomial
  abbrev pub g : List Bool
  g = bits (suc k) poly

  -- what stands behind the head after one step of the division
  stepped : (reg : ℕ) (rest : List Bool) → reg / 2 < 2 ^ k → suc k ≤ length rest → (b : Bool)
      → cond b (plus g (plus (bits k (reg / 2)) rest)) (plus (bits k (reg / 2)) rest) ≡ plus (bits (suc k) (cond b (bit_xor poly (reg / 2)) (reg / 2))) rest
  stepped reg rest lt wide true =
      ap (plus g) (padded (reg / 2) rest lt wide) ∙ sym (plus_assoc g (bits (suc k) (reg / 2)) rest)
      ∙ ap (λ (l : List Bool). plus l rest) (sym (bits-xor (suc k) poly (reg / 2)))
  stepped reg rest lt wide false = padded (reg / 2) rest lt wide

  -- one step of the long division shifts the register once
  pub divided_once : (n reg : ℕ) (rest : List Bool) → reg < 2 ^ suc k → suc k ≤ length rest
      → remainder (suc n) (plus (bits (suc k) reg) (false ∷ rest)) g ≡ remainder n (plus (bits (suc k) (shift reg)) rest) g
  unfolding remainder bits plus
  divided_once n reg rest lt wide =
      let left : List Bool = plus (bits k (reg / 2)) rest in
      ap (λ c. remainder n (cond c (plus g left) left) g) (xor_zero (eqb (reg % 2) 1))
      ∙ ap (λ (l : List Bool). remainder n l g) (stepped reg rest (half reg lt) wide (eqb (reg % 2) 1))

  unfoldable pub shifts : ℕ → ℕ → ℕ
  shifts zero reg = reg
  shifts (suc j) reg = shifts j (shift reg)

  -- the register fits in its bits after j more bits
  pub shifts_lt : (j reg : ℕ) → reg < 2 ^ suc k → shifts j reg < 2 ^ suc k
  unfolding shifts
  shifts_lt zero reg lt = lt
  shifts_lt (suc j) reg lt = shifts_lt j (shift reg) (shift_lt reg lt)

  -- j steps of the long division shift the register j times
  pub divided_many : (j n reg : ℕ) (rest : List Bool) → reg < 2 ^ suc k → suc k ≤ length rest
      → remainder (j + n) (plus (bits (suc k) reg) (zeros j ++ rest)) g ≡ remainder n (plus (bits (suc k) (shifts j reg)) rest) g
  unfolding shifts
  divided_many zero n reg rest lt wide = let same : 0 + n ≡ n = omega arith in ap (λ m. remainder m (plus (bits (suc k) reg) rest) g) same
  divided_many (suc j) n reg rest lt wide =
      let same : suc j + n ≡ suc (j + n) = omega arith in
      ap (λ m. remainder m (plus (bits (suc k) reg) (zeros (suc j) ++ rest)) g) same
      ∙ divided_once (j + n) reg (zeros j ++ rest) lt (omega (arith, length-append (zeros j) rest))
      ∙ divided_many j n (shift reg) rest (shift_lt reg lt) wide

-- the next j bits of the message are taken into the register
absorbed : (j i reg b : ℕ) (rest : List Bool) → b < 2 ^ j → i ≤ length rest → plus (bits (j + i) reg) (bits j b ++ rest)
    ≡ plus (bits (j + i) (bit_xor reg b)) (zeros j ++ rest)
absorbed j i reg b rest lt wide = sym (
    ap (λ (l : List Bool). plus l (zeros j ++ rest)) (bits-xor (j + i) reg b)
    ∙ plus_assoc (bits (j + i) reg) (bits (j + i) b) (zeros j ++ rest)
    ∙ ap (plus (bits (j + i) reg)) (
    ap (λ (l : List Bool). plus l (zeros j ++ rest)) (bits_high j i b lt)
    ∙ plus-padded (bits j b) (zeros j ++ rest) i (omega (arith, length-bits j b, length-append (zeros j) rest, length-replicate j false))
    ∙ plus_front (bits j b) rest j (length-bits j b)
    )
    )

-- a message has 8 bits for each byte
pub length-message : (bytes : List ℕ) → length (message bytes) ≡ 8 * length bytes
unfolding message
length-message [] = refl
length-message (b ∷ bytes) = omega (arith, length-append (bits 8 b) (message bytes), length-bits 8 b, length-message bytes)

-- the dividend is the message and 32 zeros, with the register added in front
dividend_is : (reg : ℕ) (bytes : List ℕ) → dividend reg bytes ≡ plus (bits 32 reg) (message bytes ++ zeros 32)
unfolding dividend
dividend_is reg bytes =
    plus-padded (bits 32 reg) (message bytes ++ zeros 32) (8 * length bytes)
    (omega (arith, length-bits 32 reg, length-append (message bytes) (zeros 32), length-message bytes, length-replicate 32 false))

-- the polynomial of CRC-32C has 32 bits
pub fits : 0x82F63B78 < 2 ^ 32
fits = omega arith

-- the register of CRC-32C after some bits that are 0
abbrev pub shifts_of : ℕ → ℕ → ℕ
shifts_of = shifts 31 0x82F63B78 fits

-- shifts by the polynomial of CRC-32C are those of the register
shifts_are : (j reg : ℕ) → shifts_of j reg ≡ shifted_by j reg
unfolding shifts shifted_by
shifts_are zero reg = refl
shifts_are (suc j) reg = shifts_are j (shifted reg)

-- a register of 32 bits after more bits that are 0 has 32 bits
pub shifted_by_lt : (j reg : ℕ) → reg < 2 ^ 32 → shifted_by j reg < 2 ^ 32
shifted_by_lt j reg lt = let P : ℕ → Type 0 = λ n. n < 2 ^ 32 in subst P (shifts_are j reg) (shifts_lt 31 0x82F63B78 fits j reg lt)

-- after no bytes the register is as it was
pub register-nil : (reg : ℕ) → reg < 2 ^ 32 → register reg [] ≡ reg
unfolding register remainder message
register-nil reg lt = ap number (dividend_is reg [] ∙ right) ∙ number-bits 32 reg lt
  where
    right : plus (bits 32 reg) (zeros 32) ≡ bits 32 reg
    right = ap (λ j. plus (bits 32 reg) (zeros j)) (sym (length-bits 32 reg)) ∙ plus_right_zeros (bits 32 reg)

-- a first byte is added to the register and goes through it
pub register-cons : (reg b : ℕ) (bytes : List ℕ) → reg < 2 ^ 32 → b < 2 ^ 8 → register reg (b ∷ bytes) ≡ register (shifted_by 8 (bit_xor reg b)) bytes
unfolding register generator message
register-cons reg b bytes lt byte =
    let rest : List Bool = message bytes ++ zeros 32 in
    let wide : 32 ≤ length rest = omega (arith, length-append (message bytes) (zeros 32), length-replicate 32 false) in
    let fewer : 8 * length (b ∷ bytes) ≡ 8 + 8 * length bytes = omega arith in
    ap number (
    ap (λ (l : List Bool). remainder (8 * length (b ∷ bytes)) l generator)
    (dividend_is reg (b ∷ bytes) ∙ ap (plus (bits 32 reg)) (append_assoc (bits 8 b) (message bytes) (zeros 32))
    ∙ absorbed 8 24 reg b rest byte (omega arith))
    ∙ ap (λ n. remainder n (plus (bits 32 (bit_xor reg b)) (zeros 8 ++ rest)) generator) fewer
    ∙ divided_many 31 0x82F63B78 fits 8 (8 * length bytes) (bit_xor reg b) rest (xor_lt 32 reg b lt (omega arith)) wide
    ∙ ap (λ (l : List Bool). remainder (8 * length bytes) l generator) (sym (dividend_is (shifts_of 8 (bit_xor reg b)) bytes))
    )
    ∙ ap (λ r. register r bytes) (shifts_are 8 (bit_xor reg b))

-- a test's bit is a bit
bit_of : (b : Bool) → cond b 1 0 < 2
bit_of true = omega arith
bit_of false = omega arith

-- a test's bit says what the test says
bit_back : (b : Bool) → eqb (cond b 1 0) 1 ≡ b
bit_back true = refl
bit_back false = refl

-- the bits of a list's number are the list
bits-number : (p : List Bool) → bits (length p) (number p) ≡ p
unfolding bits number
bits-number [] = refl
bits-number (b ∷ p) =
    let low : (cond b 1 0 + 2 * number p) % 2 ≡ cond b 1 0 = omega (arith, bit_of b) in
    let half : (cond b 1 0 + 2 * number p) / 2 ≡ number p = omega (arith, bit_of b) in
    λ i. (ap (λ n. eqb n 1) low ∙ bit_back b) i ∷ (ap (bits (length p)) half ∙ bits-number p) i

-- the dividend is longer than the generator by 8 bits a byte
length-dividend : (reg : ℕ) (bytes : List ℕ) → length (dividend reg bytes) ≡ 8 * length bytes + length generator
unfolding generator
length-dividend reg bytes =
    ap length (dividend_is reg bytes)
    ∙ length-plus (bits 32 reg) (message bytes ++ zeros 32) (omega
    (arith, length-bits 32 reg, length-append (message bytes) (zeros 32), length-replicate 32 false))
    ∙ omega (arith, length-append (message bytes) (zeros 32), length-message bytes, length-replicate 32 false, length-bits 32 0x82F63B78)

-- the register is the remainder of the dividend
pub register_is_remainder : (reg : ℕ) (bytes : List ℕ) → IsRemainder (dividend reg bytes) generator (bits 32 (register reg bytes))
unfolding register generator
register_is_remainder reg bytes =
    let is = divided (8 * length bytes) (dividend reg bytes) generator (length-dividend reg bytes) in
    let wide : length (remainder (8 * length bytes) (dividend reg bytes) generator) ≡ 32 = is.degree ∙ length-bits 32 0x82F63B78 in
    subst (IsRemainder (dividend reg bytes) generator) (sym (ap (λ k. bits k (register reg bytes)) (sym wide)
    ∙ bits-number (remainder (8 * length bytes) (dividend reg bytes) generator))) is

-- what equals the register is the remainder
pub is_remainder : (reg : ℕ) (bytes : List ℕ) (r : ℕ) → r ≡ register reg bytes → IsRemainder (dividend reg bytes) generator (bits 32 r)
is_remainder reg bytes r same = subst (λ x. IsRemainder (dividend reg bytes) generator (bits 32 x)) (sym same) (register_is_remainder reg bytes)
