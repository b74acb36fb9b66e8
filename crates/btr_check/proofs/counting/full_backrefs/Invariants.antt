use Rattle.std.proofs.Common.{take}
use Rattle.btr_check.specs.Counting.{IsFull}
use Rattle.btr_check.proofs.counting.full_backrefs.Given as goal

-- the addresses of the extents so far
abbrev pub invariant-loop-extent : goal.invariant-loop-extent
invariant-loop-extent l = IsFull (take l.extent-index l.extents) l.full
