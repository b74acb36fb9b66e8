use Rattle.std.proofs.Common.{◌+◌, ◌-◌, length}
use Rattle.btr_check_differences.proofs.shared.next_shared.Given as goal

abbrev pub decreases-loop-at : goal.decreases-loop-at
decreases-loop-at l = (length l.before - l.at.before) + (length l.after - l.at.after)
