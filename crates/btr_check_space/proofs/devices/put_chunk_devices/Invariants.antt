use Rattle.std.proofs.Common.{take, filter_map}
use Rattle.btr_findings.specs.Findings.{Adds}
use Rattle.btr_check_space.specs.Devices.{chunk_device}
use Rattle.btr_check_space.proofs.devices.put_chunk_devices.Given as goal

-- the findings of the ranges so far
abbrev pub invariant-loop-range : goal.invariant-loop-range
invariant-loop-range l = Adds (filter_map (chunk_device l.fn.extents) (take l.range-index l.ranges)) l.fn.found l.found
