use Rattle.std.proofs.Common.{◌≡◌, ℕ, ◌/◌, ◌%◌, ◌^◌, ◌<◌, ◌≤◌, length, get_or}
use Rattle.btr_base.proofs.crc.fold.begin.Given as goal

-- the bytes so far are the register's, and the others zeros
abbrev pub invariant-loop-k : goal.invariant-loop-k
invariant-loop-k l = record {
  sized : length l.dropped ≡ 4972;
  first : (i : ℕ) → i < l.k → get_or l.dropped i 0 ≡ l.fn.start / 256 ^ i % 256;
  zeros : (i : ℕ) → l.k ≤ i → i < 561 → get_or l.dropped i 0 ≡ 0;
}
