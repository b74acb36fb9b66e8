-- Polynomials over the field {0, 1}: the list of the coefficients, that of the highest degree first.
use Rattle.std.specs.Prelude.{◌≡◌, ℕ, zero, suc, ◌+◌, ◌*◌, ◌/◌, ◌%◌, ◌==◌, Bool, false, if◌then◌else◌, List, [], ◌∷◌, ◌++◌, length, replicate}
use Rattle.std.specs.Bool.{xor}

-- the sum of two polynomials of one length; a shorter one counts as ended by zeros
unfoldable pub plus : List Bool → List Bool → List Bool
plus [] q = q
plus (a ∷ p) [] = a ∷ p
plus (a ∷ p) (b ∷ q) = xor a b ∷ plus p q

-- the polynomial 0, of n coefficients
abbrev pub zeros : ℕ → List Bool
zeros n = replicate n false

-- c times a polynomial, for a coefficient c
abbrev pub scaled : Bool → List Bool → List Bool
scaled c g = if c then g else zeros (length g)

-- q times the polynomial x^d + g, where d is the number of the coefficients of g
unfoldable pub times : List Bool → List Bool → List Bool
times [] g = zeros (length g)
times (c ∷ q) g = plus (c ∷ scaled c g ++ zeros (length q)) (false ∷ times q g)

-- r is the remainder of p modulo x^d + g: some multiple of it and r add up to p
pub record IsRemainder (p g r : List Bool) : Type 0 where
  pub quotient : List Bool
  pub degree : length r ≡ length g
  pub size : length p ≡ length quotient + length g
  pub whole : p ≡ plus (times quotient g) (zeros (length quotient) ++ r)

-- the remainder of p modulo x^d + g by long division, where p has n coefficients more than g
unfoldable pub remainder : ℕ → List Bool → List Bool → List Bool
remainder zero p g = p
remainder (suc n) [] g = []
remainder (suc n) (c ∷ p) g = remainder n (if c then plus g p else p) g

-- the low k bits of a number, the lowest first
unfoldable pub bits : ℕ → ℕ → List Bool
bits zero n = []
bits (suc k) n = (n % 2 == 1) ∷ bits k (n / 2)

-- the number of a list of bits, the lowest first
unfoldable pub number : List Bool → ℕ
number [] = 0
number (b ∷ p) = (if b then 1 else 0) + 2 * number p

-- the polynomial of a list of bytes: the low bit of each byte first
unfoldable pub message : List ℕ → List Bool
message [] = []
message (b ∷ bytes) = bits 8 b ++ message bytes
