use Rattle.std.proofs.Common.{◌≡◌, ◌++◌, map, take}
use Rattle.btr_check_space.specs.Devices.{stripe_range}
use Rattle.btr_check_space.proofs.chunks.add_ranges.Given as goal

-- the ranges of the stripes so far
abbrev pub invariant-loop-i : goal.invariant-loop-i
invariant-loop-i l = l.ranges.items ≡ l.fn.ranges.items ++ map (stripe_range l.fn.chunk) (take l.i l.fn.chunk.stripes)
