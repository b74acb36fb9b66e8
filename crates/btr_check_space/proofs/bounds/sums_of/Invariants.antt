use Rattle.std.proofs.Common.{◌≡◌, ℕ, ◌+◌, ◌≤◌, length, get_or}
use Rattle.btr_check_space.specs.Bounds.{sum_first}
use Rattle.btr_check_space.proofs.bounds.sums_of.Given as goal

-- the sum so far, and that of each front
abbrev pub invariant-loop-len : goal.invariant-loop-len
invariant-loop-len l = record {
  long : length l.list.items ≡ l.len-index + 1;
  last : l.sum ≡ sum_first l.len-index l.lengths;
  each : (i : ℕ) → i ≤ l.len-index → get_or l.list.items i 0 ≡ sum_first i l.lengths;
}
