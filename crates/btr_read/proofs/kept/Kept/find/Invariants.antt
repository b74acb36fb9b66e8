use Rattle.std.proofs.Common.{◌≢◌, ℕ, ◌<◌, get_or, Some, None}
use Rattle.btr_pool.specs.Slots.{IsFree}
use Rattle.btr_read.proofs.kept.Kept.find.Given as goal

-- no free slot so far has it
abbrev pub invariant-loop-slot : goal.invariant-loop-slot
invariant-loop-slot l = (k : ℕ) → k < l.slot → IsFree l.pool k → get_or l.self.wants k None ≢ Some l.want
