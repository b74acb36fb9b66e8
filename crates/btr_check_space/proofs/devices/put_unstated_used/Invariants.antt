use Rattle.std.proofs.Common.{List, take, filter_map}
use Rattle.btr_findings.specs.Findings.{Adds}
use Rattle.btr_check_space.specs.Devices.{unstated_used}
use Rattle.btr_check_space.specs.Given.{HasAllocated, Devids}
use Rattle.btr_check_space.specs.declared.stated_device.StatedDevice.{StatedDevice}
use Rattle.btr_check_space.proofs.devices.put_unstated_used.Given as goal

-- the findings of the device extents so far
abbrev pub invariant-loop-extent : goal.invariant-loop-extent
invariant-loop-extent l = (devices : List StatedDevice) → Devids devices l.devids → HasAllocated l.extents l.given
    → Adds (filter_map (unstated_used devices l.extents) (take l.extent-index l.extents)) l.fn.found l.found
