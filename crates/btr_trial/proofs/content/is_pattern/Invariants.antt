use Rattle.std.proofs.Common.{◌≡◌, ◌<◌, ℕ, ◌+◌, ◌%◌, get_or}
use Rattle.btr_trial.proofs.content.is_pattern.Given as goal

abbrev pub invariant-loop-p : goal.invariant-loop-p
invariant-loop-p l = (k : ℕ) → k < l.p → get_or l.bytes k 0 ≡ (l.first + k) % 251
