use Rattle.std.proofs.Common.{List, take, filter_map}
use Rattle.btr_findings.specs.Findings.{Adds}
use Rattle.btr_check_space.specs.Devices.{device_used}
use Rattle.btr_check_space.specs.Given.{HasAllocated}
use Rattle.btr_check_space.specs.declared.device_extent.DeviceExtent.{DeviceExtent}
use Rattle.btr_check_space.proofs.devices.put_device_used.Given as goal

-- the findings of the devices so far
abbrev pub invariant-loop-device : goal.invariant-loop-device
invariant-loop-device l = (extents : List DeviceExtent) → HasAllocated extents l.given
    → Adds (filter_map (device_used extents) (take l.device-index l.devices)) l.fn.found l.found
