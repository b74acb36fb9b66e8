use Rattle.std.proofs.Common.{take, filter_map, flat_map}
use Rattle.btr_findings.specs.Findings.{Adds}
use Rattle.btr_check_sums.specs.Sums.{sum_stray, run_sectors}
use Rattle.btr_check_sums.proofs.strays.put_strays.Given as goal

-- the findings of the runs so far
abbrev pub invariant-loop-run : goal.invariant-loop-run
invariant-loop-run l = Adds (flat_map (λ run. filter_map (sum_stray l.fn.extents) (run_sectors run)) (take l.run-index l.runs)) l.fn.found l.found
