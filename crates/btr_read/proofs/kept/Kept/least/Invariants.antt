use Rattle.std.proofs.Common.{ℕ, ◌<◌, ◌≤◌, get_or, None}
use Rattle.std.specs.Prelude.{IsSome}
use Rattle.btr_pool.specs.Slots.{IsFree}
use Rattle.btr_read.proofs.kept.Kept.least.Given as goal

-- in all free slots so far something stands, and a free one was found that was used no later than they
abbrev pub invariant-loop-slot : goal.invariant-loop-slot
invariant-loop-slot l = record {
  free : IsFree l.pool l.least;
  full : (k : ℕ) → k < l.slot → IsFree l.pool k → IsSome (get_or l.self.wants k None);
  least : (k : ℕ) → k < l.slot → IsFree l.pool k → get_or l.self.used l.least 0 ≤ get_or l.self.used k 0;
}
