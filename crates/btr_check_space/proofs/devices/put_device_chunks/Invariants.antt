use Rattle.std.proofs.Common.{take, filter_map}
use Rattle.btr_findings.specs.Findings.{Adds}
use Rattle.btr_check_space.specs.Devices.{device_chunk}
use Rattle.btr_check_space.proofs.devices.put_device_chunks.Given as goal

-- the findings of the device extents so far
abbrev pub invariant-loop-extent : goal.invariant-loop-extent
invariant-loop-extent l = Adds (filter_map (device_chunk l.fn.ranges) (take l.extent-index l.extents)) l.fn.found l.found
