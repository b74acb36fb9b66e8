use Rattle.std.proofs.Common.{◌≡◌, ℕ, ◌+◌, ◌<◌, ◌≤◌, take, length, get_or}
use Rattle.btr_base.proofs.crc.fold.clear.Given as goal

-- the first bytes are as before, and those behind them are zeros so far
abbrev pub invariant-loop-k : goal.invariant-loop-k
invariant-loop-k l = record {
  sized : length l.dropped ≡ 4972;
  kept : take (l.count + 561) l.dropped ≡ take (l.count + 561) l.initial.dropped;
  zeros : (i : ℕ) → l.count + 561 ≤ i → i < l.count + 561 + l.k → get_or l.dropped i 0 ≡ 0;
}
