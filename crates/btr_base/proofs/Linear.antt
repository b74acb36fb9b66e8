-- Shifting a register is linear.
use Rattle.std.proofs.Common.{◌≡◌, ℕ, zero, suc, ◌+◌, ◌*◌, ◌/◌, ◌%◌, ◌^◌, ◌<◌, Bool, true, false, cond, eqb, refl, sym, ap, ◌∙◌, arith}
use Rattle.std.specs.Int.Bits.{bit_xor, xor_assoc, xor_self, xor_zero_l, xor_zero_r}
use Rattle.std.proofs.lemmas.Nat.{xor_comm, xor_shr, xor_block}
use Rattle.std.proofs.Math.Nat.{pow-suc, mul_comm, mul_assoc}
use mathlib.Core.Bool.{xor}
use Rattle.btr_base.specs.Crc.{shifted, shifted_by}
use Rattle.btr_base.proofs.Shifts.{low_xor}

-- (p ^ a) ^ (p ^ b) is a ^ b
twice : (p a b : ℕ) → bit_xor (bit_xor p a) (bit_xor p b) ≡ bit_xor a b
twice p a b =
    ap (λ x. bit_xor x (bit_xor p b)) (xor_comm p a) ∙ xor_assoc a p (bit_xor p b)
    ∙ ap (bit_xor a) (sym (xor_assoc p p b) ∙ ap (λ x. bit_xor x b) (xor_self p) ∙ xor_zero_l b)

-- the polynomial is added to the first number of a sum
left : (p a b : ℕ) → bit_xor p (bit_xor a b) ≡ bit_xor (bit_xor p a) b
left p a b = sym (xor_assoc p a b)

-- the polynomial is added to the second number of a sum
right : (p a b : ℕ) → bit_xor p (bit_xor a b) ≡ bit_xor a (bit_xor p b)
right p a b = sym (xor_assoc p a b) ∙ ap (λ x. bit_xor x b) (xor_comm p a) ∙ xor_assoc a p b

-- the polynomial is added to a sum where just one of two numbers takes it
by_bits : (p a b : ℕ) (x y : Bool) → cond (xor x y) (bit_xor p (bit_xor a b)) (bit_xor a b) ≡ bit_xor (cond x (bit_xor p a) a) (cond y (bit_xor p b) b)
unfolding xor
by_bits p a b true true = sym (twice p a b)
by_bits p a b true false = left p a b
by_bits p a b false true = right p a b
by_bits p a b false false = refl

-- the register of a sum after a bit that is 0 is the sum of the registers
pub shifted-xor : (a b : ℕ) → shifted (bit_xor a b) ≡ bit_xor (shifted a) (shifted b)
shifted-xor a b =
    (λ i. cond (low_xor a b i) (bit_xor 0x82F63B78 (xor_shr a b 1 i)) (xor_shr a b 1 i)) ∙ by_bits 0x82F63B78 (a / 2) (b / 2) (eqb (a % 2) 1) (eqb (b % 2) 1)

-- the register of a sum after n bits that are 0 is the sum of the registers
pub shifted_by-xor : (n a b : ℕ) → shifted_by n (bit_xor a b) ≡ bit_xor (shifted_by n a) (shifted_by n b)
unfolding shifted_by
shifted_by-xor zero a b = refl
shifted_by-xor (suc n) a b = ap (shifted_by n) (shifted-xor a b) ∙ shifted_by-xor n (shifted a) (shifted b)

-- a register of zeros stays one
pub shifted_by-zero : (n : ℕ) → shifted_by n 0 ≡ 0
unfolding shifted_by
shifted_by-zero zero = refl
shifted_by-zero (suc n) = shifted_by-zero n

-- first m bits, and then n
pub shifted_by-add : (m n reg : ℕ) → shifted_by (m + n) reg ≡ shifted_by n (shifted_by m reg)
unfolding shifted_by
shifted_by-add zero n reg = let same : 0 + n ≡ n = omega arith in ap (λ k. shifted_by k reg) same
shifted_by-add (suc m) n reg = let same : suc m + n ≡ suc (m + n) = omega arith in ap (λ k. shifted_by k reg) same ∙ shifted_by-add m n (shifted reg)

-- an even register is halved
even : (y : ℕ) → shifted (2 * y) ≡ y
even y =
    let low : 2 * y % 2 ≡ 0 = omega arith in
    let half : 2 * y / 2 ≡ y = omega arith in
    (λ i. cond (eqb (low i) 1) (bit_xor 0x82F63B78 (2 * y / 2)) (2 * y / 2)) ∙ half

twofold : (n h : ℕ) → 2 ^ suc n * h ≡ 2 * (2 ^ n * h)
twofold n h = ap (λ k. k * h) (pow-suc 2 n ∙ mul_comm (2 ^ n) 2) ∙ mul_assoc 2 (2 ^ n) h

-- zeros at the low end move out
pub shifted_by-high : (n h : ℕ) → shifted_by n (2 ^ n * h) ≡ h
unfolding shifted_by
shifted_by-high zero h = omega arith
shifted_by-high (suc n) h = ap (λ x. shifted_by n (shifted x)) (twofold n h) ∙ ap (shifted_by n) (even (2 ^ n * h)) ∙ shifted_by-high n h

-- a number is its low byte and the rest
pub low_byte : (b h : ℕ) → b < 256 → b + 256 * h ≡ bit_xor b (256 * h)
low_byte b h lt =
    let l : 0 * 256 + b ≡ b = omega arith in
    let r : h * 256 + 0 ≡ 256 * h = omega arith in
    let block : bit_xor (0 * 256 + b) (h * 256 + 0) ≡ bit_xor 0 h * 256 + bit_xor b 0 = xor_block 8 0 h b 0 (omega arith) (omega arith) in
    let sum : h * 256 + b ≡ b + 256 * h = omega arith in
    sym sum ∙ sym (λ i. xor_zero_l h i * 256 + xor_zero_r b i) ∙ sym block ∙ (λ i. bit_xor (l i) (r i))

-- the high bytes move down, and the low byte goes through
pub shifted_byte_low : (x : ℕ) → shifted_by 8 x ≡ bit_xor (shifted_by 8 (x % 256)) (x / 256)
shifted_byte_low x =
    let parts : x ≡ x % 256 + 256 * (x / 256) = omega arith in
    ap (shifted_by 8) (parts ∙ low_byte (x % 256) (x / 256) (omega arith)) ∙ shifted_by-xor 8 (x % 256) (256 * (x / 256))
    ∙ ap (bit_xor (shifted_by 8 (x % 256))) (shifted_by-high 8 (x / 256))
