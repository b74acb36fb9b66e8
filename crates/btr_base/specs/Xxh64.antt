-- xxhash64 with the seed 0, over whole lists. All numbers have 64 bits: sums and products drop what lies above.
use Rattle.std.specs.Prelude.{ℕ, ◌+◌, ◌-◌, ◌*◌, ◌/◌, ◌%◌, ◌^◌, List, length, map, fold, drop, bit_xor, nat_lt, if◌then◌else◌}
use Rattle.std.specs.List.{range_with_len}
use Rattle.std.specs.Int.{w64, rotate_left}
use Rattle.btr_base.specs.Field.{number_at}

-- its first constant
abbrev pub prime_1 : ℕ
prime_1 = 0x9E3779B185EBCA87

-- its second constant
abbrev pub prime_2 : ℕ
prime_2 = 0xC2B2AE3D27D4EB4F

-- its third constant
abbrev pub prime_3 : ℕ
prime_3 = 0x165667B19E3779F9

-- its fourth constant
abbrev pub prime_4 : ℕ
prime_4 = 0x85EBCA77C2B2AE63

-- its fifth constant
abbrev pub prime_5 : ℕ
prime_5 = 0x27D4EB2F165667C5

-- the sum of two numbers
abbrev pub added : ℕ → ℕ → ℕ
added x y = (x + y) % 2 ^ 64

-- the product of two numbers
abbrev pub multiplied : ℕ → ℕ → ℕ
multiplied x y = (x * y) % 2 ^ 64

-- x turned left by k bits
abbrev pub turned : ℕ → ℕ → ℕ
turned x k = rotate_left w64 x k

-- a lane with one more number
unfoldable pub rounded : ℕ → ℕ → ℕ
rounded lane number = multiplied (turned (added lane (multiplied number prime_2)) 31) prime_1

-- the numbers in the 8 bytes at an offset, at that offset and one step, and so on: one for each whole step of the bytes
unfoldable pub numbers_every : ℕ → ℕ → List ℕ → List ℕ
numbers_every step off bytes = map (λ t. number_at 8 (step * t + off) bytes) (range_with_len 0 (length bytes / step))

-- a lane: from its start, with the number at its offset in each whole 32 bytes, one after the other
unfoldable pub lane : ℕ → ℕ → List ℕ → ℕ
lane start off bytes = fold rounded start (numbers_every 32 off bytes)

-- the first lane
abbrev pub lane_0 : List ℕ → ℕ
lane_0 bytes = lane (added prime_1 prime_2) 0 bytes

-- the second lane
abbrev pub lane_1 : List ℕ → ℕ
lane_1 bytes = lane prime_2 8 bytes

-- the third lane
abbrev pub lane_2 : List ℕ → ℕ
lane_2 bytes = lane 0 16 bytes

-- the fourth lane
abbrev pub lane_3 : List ℕ → ℕ
lane_3 bytes = lane (2 ^ 64 - prime_1) 24 bytes

-- a hash with one more lane
unfoldable pub merged : ℕ → ℕ → ℕ
merged hash lane = added (multiplied (bit_xor hash (rounded 0 lane)) prime_1) prime_4

-- what four lanes come to
unfoldable pub joined : ℕ → ℕ → ℕ → ℕ → ℕ
joined a b c d = merged (merged (merged (merged (added (added (added (turned a 1) (turned b 7)) (turned c 12)) (turned d 18)) a) b) c) d

-- the hash of the whole 32 bytes, if there are any
unfoldable pub front : List ℕ → ℕ
front bytes = if nat_lt (length bytes) 32 then prime_5 else joined (lane_0 bytes) (lane_1 bytes) (lane_2 bytes) (lane_3 bytes)

-- a hash with a number of 8 bytes
unfoldable pub with_eight : ℕ → ℕ → ℕ
with_eight hash number = added (multiplied (turned (bit_xor hash (rounded 0 number)) 27) prime_1) prime_4

-- a hash with a number of 4 bytes
unfoldable pub with_four : ℕ → ℕ → ℕ
with_four hash number = added (multiplied (turned (bit_xor hash (multiplied number prime_1)) 23) prime_2) prime_3

-- a hash with one byte
unfoldable pub with_byte : ℕ → ℕ → ℕ
with_byte hash byte = multiplied (turned (bit_xor hash (multiplied byte prime_5)) 11) prime_1

-- a hash with fewer than 8 bytes: 4 of them, where there are so many, and then each byte
unfoldable pub with_few : ℕ → List ℕ → ℕ
with_few hash bytes = if nat_lt (length bytes) 4 then fold with_byte hash bytes else fold with_byte (with_four hash (number_at 4 0 bytes)) (drop 4 bytes)

-- a hash with bytes: each whole 8 of them, and then the others
unfoldable pub with_bytes : ℕ → List ℕ → ℕ
with_bytes hash bytes = with_few (fold with_eight hash (numbers_every 8 0 bytes)) (drop (8 * (length bytes / 8)) bytes)

-- a hash whose high bits are spread over the low ones
unfoldable pub spread : ℕ → ℕ
spread hash =
    let high = multiplied (bit_xor hash (hash / 2 ^ 33)) prime_2 in
    let middle = multiplied (bit_xor high (high / 2 ^ 29)) prime_3 in
    bit_xor middle (middle / 2 ^ 32)

-- xxhash64: the whole 32 bytes, the length, and the bytes behind the whole 32
unfoldable pub hash64 : List ℕ → ℕ
hash64 bytes = spread (with_bytes (added (front bytes) (length bytes)) (drop (32 * (length bytes / 32)) bytes))
