use Rattle.std.proofs.Common.{take, filter_map}
use Rattle.btr_findings.specs.Findings.{Adds}
use Rattle.btr_check_space.specs.Groups.{group_used}
use Rattle.btr_check_space.proofs.groups.put_group_used.Given as goal

-- the findings of the block groups so far
abbrev pub invariant-loop-group : goal.invariant-loop-group
invariant-loop-group l = Adds (filter_map (group_used l.fn.extents) (take l.group-index l.groups)) l.fn.found l.found
