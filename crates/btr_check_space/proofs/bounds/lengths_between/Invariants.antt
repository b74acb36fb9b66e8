use Rattle.std.proofs.Common.{take}
use Rattle.btr_check_space.specs.Bounds.{AreLengthsBetween}
use Rattle.btr_check_space.proofs.bounds.lengths_between.Given as goal

-- the lengths of the extents so far
abbrev pub invariant-loop-extent : goal.invariant-loop-extent
invariant-loop-extent l = AreLengthsBetween (take l.extent-index l.extents) l.bounds l.lengths.items
