-- What a made volume of so many directories holds, as a restore lists it.
use Rattle.std.specs.Prelude.{◌≡◌, ℕ, ◌+◌, ◌*◌, ◌/◌, ◌%◌, Bool, true, false, ◌&&◌, List, [], ◌∷◌, ◌++◌, map, flat_map, codes, Option, Some, None}
use Rattle.std.specs.Borrow.{Bor}
use Rattle.std.specs.List.{range_with_len}
use Rattle.std.specs.Str.{bytes_eq}
use Rattle.btr_rack.specs.declared.row.Row.{Row}
use Rattle.btr_rack.specs.declared.row.Row.TheVariants.{Start, Dir, Up, File}

-- the last decimal digit of a number
abbrev pub digit : ℕ → ℕ
digit n = 48 + n % 10

-- the name of a directory: `d` and its number in four digits
abbrev pub directory_name : ℕ → List ℕ
directory_name i = 100 ∷ digit (i / 1000) ∷ digit (i / 100) ∷ digit (i / 10) ∷ digit i ∷ []

-- so many bytes that count up to 250 and begin anew at 0, the first of which is that of a number
abbrev pub pattern : ℕ → ℕ → List ℕ
pattern first len = map (λ p. (first + p) % 251) (range_with_len 0 len)

-- file j of directory i has 4096 j + i bytes, of which byte p is (i + 7 j + p) mod 251
abbrev pub content : ℕ → ℕ → List ℕ
content i j = pattern (i + 7 * j) (4096 * j + i)

-- a directory: it is entered, has four files, and is left
abbrev pub directory : ℕ → List Row
directory i =
    Dir (directory_name i) ∷ File (codes "f0") (content i 0) ∷ File (codes "f1") (content i 1) ∷ File (codes "f2") (content i 2)
    ∷ File (codes "f3") (content i 3) ∷ Up ∷ []

-- so many directories, from one on
abbrev pub directories : ℕ → ℕ → List Row
directories first count = flat_map directory (range_with_len first count)

-- two rows are the same
abbrev pub same_row : Row → Row → Bool
same_row (Start name) (Start other) = bytes_eq name other
same_row (Dir name) (Dir other) = bytes_eq name other
same_row Up Up = true
same_row (File name bytes) (File other more) = bytes_eq name other && bytes_eq bytes more
same_row row other = false

-- two lists of rows are the same
abbrev pub same_rows : List Row → List Row → Bool
same_rows [] [] = true
same_rows (row ∷ rows) (other ∷ others) = same_row row other && same_rows rows others
same_rows rows others = false

-- Rows are these and others behind them, or they don't begin with these.
abbrev pub AreBehind : List Row → List Row → Option (Bor (List Row)) → Type 0
AreBehind rows begin None = (more : List Row) → same_rows rows (begin ++ more) ≡ false
AreBehind rows begin (Some rest) = (more : List Row) → same_rows rows (begin ++ more) ≡ same_rows rest.now more
