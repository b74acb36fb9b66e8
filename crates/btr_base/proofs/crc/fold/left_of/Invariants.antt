use Rattle.std.proofs.Common.{◌≡◌, ℕ, ◌+◌, ◌*◌, ◌^◌, ◌<◌, length, get_or, bit_xor}
use Rattle.btr_base.specs.Fold.{near, sent, received}
use Rattle.btr_base.proofs.crc.fold.left_of.Given as goal

-- the blocks so far are what is left
abbrev pub invariant-loop-k : goal.invariant-loop-k
invariant-loop-k l = record {
  sized : length l.left ≡ 176;
  lasts : (j : ℕ) → j < 16 * l.k → get_or l.left j 0 ≡ bit_xor (received l.fn.dropped l.fn.bytes (l.fn.from + (400 + j))) (sent near l.nearer (400 + j));
  fits : (i : ℕ) → get_or l.left i 0 < 2 ^ 8;
}
