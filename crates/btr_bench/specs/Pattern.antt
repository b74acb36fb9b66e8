-- The bytes that pieces are made of.
use Rattle.std.specs.Prelude.{ℕ, ◌+◌, ◌*◌, ◌%◌, List, map}
use Rattle.std.specs.List.{range_with_len}

-- so many bytes, of which byte i is (7i + 3) mod 256
abbrev pub pattern : ℕ → List ℕ
pattern size = map (λ i. (7 * i + 3) % 256) (range_with_len 0 size)
