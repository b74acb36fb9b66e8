-- Numbers on the command line.
use Rattle.std.specs.Prelude.{◌≡◌, ℕ, ◌^◌, ◌<◌, ◌&&◌, nat_lt, if◌then◌else◌, List, Option, Some, None}
use Rattle.std.specs.Fmt.{decimal}
use Rattle.std.specs.Str.{bytes_eq}
use Rattle.std.specs.Str.Parse.{digits_value}

-- a word is the decimal digits of a number of 64 bits, without a leading zero
abbrev pub IsNumber : ℕ → List ℕ → Type 0
IsNumber n word = (n < 2 ^ 64) × (word ≡ decimal n)

-- this number, if it has 64 bits and the word is its digits
abbrev pub number_if : ℕ → List ℕ → Option ℕ
number_if n word = if nat_lt n (2 ^ 64) && bytes_eq word (decimal n) then Some n else None

-- the number that a word is
unfoldable pub number_of : List ℕ → Option ℕ
number_of word = number_if (digits_value 10 word) word
