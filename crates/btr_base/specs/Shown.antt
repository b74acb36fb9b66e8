-- How a byte of a name is shown.
use Rattle.std.specs.Prelude.{ℕ, ◌+◌, ◌/◌, ◌%◌, List, [], ◌∷◌, if◌then◌else◌, nat_lt, ◌==◌, ◌||◌}

-- a lower-case hexadecimal digit
abbrev pub digit_of : ℕ → ℕ
digit_of n = if nat_lt n 10 then 48 + n else 87 + n

-- 20h to 7Eh other than the backslash as themselves, all others as \x and two digits
abbrev pub shown : ℕ → List ℕ
shown b = if (nat_lt b 32 || nat_lt 126 b) || (b == 92) then 92 ∷ 120 ∷ digit_of (b / 16) ∷ digit_of (b % 16) ∷ [] else b ∷ []
