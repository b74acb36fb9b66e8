-- What the kernels of parity use, over the parity that btr_parity defines.
use Rattle.std.specs.Prelude.{ℕ, ◌%◌, List, take}
use Rattle.std.specs.Int.{w64, from_be_bytes}

-- the index of the lost slice in a turn, or of the first of two
abbrev pub index_of : ℕ → ℕ
index_of turn = turn % 62

-- the first 8 bytes, the first of them highest
abbrev pub front : List ℕ → ℕ
front slice = from_be_bytes w64 (take 8 slice)
