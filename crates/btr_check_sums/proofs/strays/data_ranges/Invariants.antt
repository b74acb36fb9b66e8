use Rattle.std.proofs.Common.{◌≡◌, map, take}
use Rattle.btr_check_sums.specs.Sums.{extent_range, data_extents}
use Rattle.btr_check_sums.proofs.strays.data_ranges.Given as goal

-- the ranges of the data extents so far
abbrev pub invariant-loop-extent : goal.invariant-loop-extent
invariant-loop-extent l = l.ranges.items ≡ map extent_range (data_extents (take l.extent-index l.extents))
