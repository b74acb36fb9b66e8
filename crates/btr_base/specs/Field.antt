-- Fields of a list of bytes. All numbers on disk are little-endian.
use Rattle.std.specs.Prelude.{ℕ, ◌+◌, List, drop, slice_range}
use Rattle.byteorder.specs.Endian.{little_number}

-- the number in the n bytes from an offset
abbrev pub number_at : ℕ → ℕ → List ℕ → ℕ
number_at n off bytes = little_number n (drop off bytes)

-- the n bytes from an offset
abbrev pub bytes_at : ℕ → ℕ → List ℕ → List ℕ
bytes_at n off bytes = slice_range bytes off (off + n)
