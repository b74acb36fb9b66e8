use Rattle.std.proofs.Common.{take, filter_map}
use Rattle.btr_findings.specs.Findings.{Adds}
use Rattle.btr_check_space.specs.Groups.{chunk_group}
use Rattle.btr_check_space.proofs.groups.put_chunk_groups.Given as goal

-- the findings of the chunks so far
abbrev pub invariant-loop-chunk : goal.invariant-loop-chunk
invariant-loop-chunk l = Adds (filter_map (chunk_group l.fn.groups) (take l.chunk-index l.chunks)) l.fn.found l.found
