use Rattle.std.proofs.Common.{take, filter_map}
use Rattle.btr_findings.specs.Findings.{Adds}
use Rattle.btr_check_space.specs.Groups.{outside_group}
use Rattle.btr_check_space.proofs.groups.put_outside.Given as goal

-- the findings of the extents so far
abbrev pub invariant-loop-extent : goal.invariant-loop-extent
invariant-loop-extent l = Adds (filter_map (outside_group l.fn.groups) (take l.extent-index l.extents)) l.fn.found l.found
