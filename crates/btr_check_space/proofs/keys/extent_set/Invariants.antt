use Rattle.std.proofs.Common.{take}
use Rattle.btr_check_space.specs.Orders.{KeysOf, extent_cmp}
use Rattle.btr_check_space.specs.declared.device_extent.DeviceExtent.{DeviceExtent}
use Rattle.btr_check_space.proofs.keys.extent_set.Given as goal

-- the keys so far
abbrev pub invariant-loop-extent : goal.invariant-loop-extent
invariant-loop-extent l = KeysOf extent_cmp (λ (extent : DeviceExtent). extent) (take l.extent-index l.extents) l.set
