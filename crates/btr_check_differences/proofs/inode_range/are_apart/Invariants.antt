use Rattle.std.proofs.Common.{◌≡◌, ◌≤◌, true, drop, length}
use Rattle.btr_check_differences.specs.Ranges.{are_apart}
use Rattle.btr_check_differences.proofs.inode_range.are_apart.Given as goal

-- those that were looked at are apart
abbrev pub invariant-loop-from : goal.invariant-loop-from
invariant-loop-from l = record { within : l.from ≤ length l.ranges; apart : are_apart (drop l.from l.ranges) ≡ true }

abbrev pub decreases-loop-from : goal.decreases-loop-from
decreases-loop-from l = l.from
