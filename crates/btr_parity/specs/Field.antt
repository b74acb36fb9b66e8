-- The field of 256 elements: polynomials over {0, 1} modulo x^8 + x^4 + x^3 + x^2 + 1, the field of
-- Linux's RAID6. A polynomial is written as a number whose bit k is the coefficient of x^k: x is 2,
-- the sum of two polynomials is their `bit_xor`, and x * a is the number 2 * a.
use Rattle.std.specs.Prelude.{◌≡◌, ℕ, zero, suc, ◌+◌, ◌*◌, ◌/◌, ◌%◌, ◌^◌, ◌<◌, bit_xor}

-- x^8 + x^4 + x^3 + x^2 + 1
abbrev pub modulus : ℕ
modulus = 0x11D

-- the polynomial a * b, where a has n coefficients: its lowest times b, and x times the others times b
unfoldable pub multiplied : ℕ → ℕ → ℕ → ℕ
multiplied zero a b = 0
multiplied (suc n) a b = bit_xor (a % 2 * b) (2 * multiplied n (a / 2) b)

-- a modulo the modulus, where a has n coefficients more than a byte: its highest, and then the others
unfoldable pub reduced : ℕ → ℕ → ℕ
reduced zero a = a
reduced (suc n) a = reduced n (bit_xor a (a / 2 ^ (8 + n) % 2 * (modulus * 2 ^ n)))

-- the product of two bytes in the field
unfoldable pub product : ℕ → ℕ → ℕ
product a b = reduced 7 (multiplied 8 a b)

-- 2^i in the field
unfoldable pub power : ℕ → ℕ
power zero = 1
power (suc i) = product 2 (power i)

-- the byte c is the polynomial a * b modulo the modulus: they differ by a multiple of it
pub record IsProduct (a b c : ℕ) : Type 0 where
  pub quotient : ℕ
  pub byte : c < 256
  pub small : quotient < 2 ^ 7
  pub whole : multiplied 8 a b ≡ bit_xor (multiplied 7 quotient modulus) c
