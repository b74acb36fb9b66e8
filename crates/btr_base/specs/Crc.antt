-- CRC-32C and the hash of names, as remainders of polynomials over {0, 1}.
use Rattle.std.specs.Prelude.{ℕ, zero, suc, ◌*◌, ◌-◌, ◌^◌, ◌/◌, ◌%◌, ◌==◌, Bool, List, ◌++◌, length, bit_xor, if◌then◌else◌}
use Rattle.btr_base.specs.Poly.{plus, zeros, bits, number, message, remainder}

-- x^32 + this polynomial is the generator. 82F63B78h is 1EDC6F41h with its bits
-- reversed, so that bit 0 has the degree 31.
unfoldable pub generator : List Bool
generator = bits 32 0x82F63B78

-- M * x^32 + S * x^(8n), for a message M of n bytes and a register S, whose bit 0 has the degree 31
unfoldable pub dividend : ℕ → List ℕ → List Bool
dividend start bytes = plus (bits 32 start ++ zeros (8 * length bytes)) (message bytes ++ zeros 32)

-- the register after the bytes: the remainder of the dividend by the generator
unfoldable pub register : ℕ → List ℕ → ℕ
register start bytes = number (remainder (8 * length bytes) (dividend start bytes) generator)

-- CRC-32C: from a register of ones, and inverted at the end
abbrev pub crc32c : List ℕ → ℕ
crc32c bytes = 2 ^ 32 - 1 - register 0xFFFFFFFF bytes

-- the hash of a name in a directory: from FFFFFFFEh, and not inverted
abbrev pub hash_of : List ℕ → ℕ
hash_of name = register 0xFFFFFFFE name

-- the register after one more bit that is 0
abbrev pub shifted : ℕ → ℕ
shifted reg = if reg % 2 == 1 then bit_xor 0x82F63B78 (reg / 2) else reg / 2

-- the register after n more bits that are 0
unfoldable pub shifted_by : ℕ → ℕ → ℕ
shifted_by zero reg = reg
shifted_by (suc n) reg = shifted_by n (shifted reg)
