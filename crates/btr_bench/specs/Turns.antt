-- What is printed: the results of a kernel over a piece that changes by one bit in each turn.
use Rattle.std.specs.Prelude.{◌≡◌, ℕ, zero, suc, ◌+◌, ◌%◌, List, length, slice_index, slice_set, bit_xor}
use Rattle.btr_parity.specs.Slices.{plus, scaled}
use Rattle.btr_parity.specs.Solutions.{IsTheOne, Weighs, WeighsWith}
use Rattle.btr_bench.specs.declared.kernel.Kernel.{Kernel}
use Rattle.btr_bench.specs.declared.kernel.Kernel.TheVariants.{Crc, Xxh64, Sha256, P, Q, Rebuild, RebuildQ, Node}
use Rattle.btr_bench.specs.Node.{leaf, place, objectid_in_turn}
use Rattle.btr_bench.specs.Parity.{index_of, front}
use Rattle.btr_bench.specs.Pattern.{pattern}
use Rattle.btr_bench.specs.Sums.{crc_result, xxh64_result, sha256_result}

-- the piece before the first turn
abbrev pub first_piece : Kernel → ℕ → List ℕ
first_piece Node size = leaf size
first_piece _ size = pattern size

-- how many bytes a kernel keeps from turn to turn
abbrev pub kept_size : Kernel → ℕ → ℕ
kept_size P size = size
kept_size Q size = size
kept_size Rebuild size = size
kept_size RebuildQ size = size
kept_size _ size = 0

-- what it keeps before the first turn
abbrev pub first_kept : Kernel → ℕ → List ℕ
first_kept kernel size = pattern (kept_size kernel size)

-- the byte that changes in a turn
abbrev pub place_of : Kernel → ℕ → ℕ → ℕ
place_of Node turn size = place turn size
place_of _ turn size = turn % size

-- the piece after the change: the low bit of the byte is flipped
abbrev pub flipped : List ℕ → ℕ → List ℕ
flipped piece at = slice_set piece at (bit_xor (slice_index piece at) 1)

-- what a kernel keeps after a turn: the sum with the piece; the sum of the double and the piece; the first of two
-- slices whose P it kept and whose Q is the piece; the slice whose Q it kept; or what it kept before
abbrev pub Keeps : Kernel → ℕ → List ℕ → List ℕ → List ℕ → Type 0
Keeps P turn piece old new = new ≡ plus old piece
Keeps Q turn piece old new = new ≡ plus (scaled 2 old) piece
Keeps Rebuild turn piece old new = IsTheOne (length old) (WeighsWith old piece (index_of turn) (index_of turn + 1)) new
Keeps RebuildQ turn piece old new = IsTheOne (length old) (Weighs (index_of turn) old) new
Keeps _ turn piece old new = new ≡ old

-- the result of a turn, from the piece and from what the kernel keeps
abbrev pub result_of : Kernel → ℕ → List ℕ → List ℕ → ℕ
result_of Crc turn piece kept = crc_result piece
result_of Xxh64 turn piece kept = xxh64_result piece
result_of Sha256 turn piece kept = sha256_result piece
result_of Node turn piece kept = objectid_in_turn turn piece
result_of _ turn piece kept = front kept

-- `all` is the exclusive or of the results of n turns, from this turn, this piece and what the kernel kept on
unfoldable pub TurnsGive : Kernel → List ℕ → List ℕ → ℕ → ℕ → ℕ → Type 0
TurnsGive kernel piece old turn zero all = all ≡ 0
TurnsGive kernel piece old turn (suc n) all =
    let next = flipped piece (place_of kernel turn (length piece)) in
    (new : List ℕ) × (rest : ℕ) × Keeps kernel turn next old new
    × TurnsGive kernel next new (turn + 1) n rest × (all ≡ bit_xor (result_of kernel turn next new) rest)
