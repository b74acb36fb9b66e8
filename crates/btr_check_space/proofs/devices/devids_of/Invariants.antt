use Rattle.std.proofs.Common.{take}
use Rattle.std.specs.Ordering.{nat_cmp}
use Rattle.btr_check_space.specs.Orders.{KeysOf}
use Rattle.btr_check_space.specs.declared.stated_device.StatedDevice.{StatedDevice}
use Rattle.btr_check_space.proofs.devices.devids_of.Given as goal

-- the ids of the devices so far
abbrev pub invariant-loop-device : goal.invariant-loop-device
invariant-loop-device l = KeysOf nat_cmp (λ (device : StatedDevice). device.devid) (take l.device-index l.devices) l.devids
