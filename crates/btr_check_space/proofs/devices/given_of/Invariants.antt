use Rattle.std.proofs.Common.{take}
use Rattle.btr_check_space.specs.Given.{HasAllocated}
use Rattle.btr_check_space.proofs.devices.given_of.Given as goal

-- the bytes of the device extents so far
abbrev pub invariant-loop-extent : goal.invariant-loop-extent
invariant-loop-extent l = HasAllocated (take l.extent-index l.extents) l.given
