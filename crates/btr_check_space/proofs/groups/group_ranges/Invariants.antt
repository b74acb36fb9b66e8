use Rattle.std.proofs.Common.{◌≡◌, map, take}
use Rattle.btr_check_space.specs.Orders.{group_range}
use Rattle.btr_check_space.proofs.groups.group_ranges.Given as goal

-- the ranges of the block groups so far
abbrev pub invariant-loop-group : goal.invariant-loop-group
invariant-loop-group l = l.ranges.items ≡ map group_range (take l.group-index l.groups)
