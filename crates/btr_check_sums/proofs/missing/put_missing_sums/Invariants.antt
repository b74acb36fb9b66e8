use Rattle.std.proofs.Common.{List, map, take, flat_map}
use Rattle.btr_items.specs.declared.sum_run.SumRun.{SumRun}
use Rattle.btr_findings.specs.Findings.{Adds}
use Rattle.btr_check_space.specs.AddressRanges.{HoldSame}
use Rattle.btr_check_sums.specs.Sums.{run_range, range_missing}
use Rattle.btr_check_sums.proofs.missing.put_missing_sums.Given as goal

-- the findings of the ranges so far
abbrev pub invariant-loop-range : goal.invariant-loop-range
invariant-loop-range l = (runs : List SumRun) → HoldSame (map run_range runs) l.places.sums.now
    → Adds (flat_map (range_missing l.places.chunks.now runs l.tree l.fn.loose) (take l.range-index l.used)) l.fn.found l.found
