use Rattle.std.proofs.Common.{◌≡◌, ◌++◌, ◌-◌, ◌^◌}
use Rattle.btr_check_space.specs.Devices.{ranges_of}
use Rattle.btr_check_space.proofs.Nexts.{left_from}
use Rattle.btr_check_space.proofs.chunks.ranges_of.Given as goal

-- what was met, and what is left, are all
abbrev pub invariant-loop-chunk : goal.invariant-loop-chunk
invariant-loop-chunk l = l.ranges.items ++ ranges_of (left_from l.from l.chunks) ≡ ranges_of l.chunks

abbrev pub decreases-loop-chunk : goal.decreases-loop-chunk
decreases-loop-chunk l = 2 ^ 64 - l.from
