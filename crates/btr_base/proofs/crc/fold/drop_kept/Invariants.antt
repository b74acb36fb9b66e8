use Rattle.std.proofs.Common.{◌≡◌, ℕ, ◌+◌, ◌*◌, ◌^◌, ◌<◌, ◌≤◌, length, get_or, bit_xor}
use Rattle.btr_base.specs.Fold.{near, sent, received}
use Rattle.btr_base.proofs.crc.fold.drop_kept.Given as goal

-- the blocks so far are as they are when they are dropped, between zeros
abbrev pub invariant-loop-k : goal.invariant-loop-k
invariant-loop-k l = record {
  sized : length l.nearer ≡ 720;
  none : (i : ℕ) → i < 176 → get_or l.nearer i 0 ≡ 0;
  sent : (j : ℕ) → j < 16 * l.k → get_or l.nearer (j + 176) 0 ≡ bit_xor (received l.fn.dropped l.fn.bytes (l.fn.from + j)) (sent near l.nearer j);
  end : (i : ℕ) → 176 + 16 * l.k ≤ i → get_or l.nearer i 0 ≡ 0;
  fits : (i : ℕ) → get_or l.nearer i 0 < 2 ^ 8;
}
