use Rattle.std.proofs.Common.{Ok, flat_map, take}
use Rattle.btr_ahead.specs.Ahead.{IsAhead}
use Rattle.btr_files.specs.Sums.{tree_behind}
use Rattle.btr_findings.specs.Findings.{Adds}
use Rattle.btr_check.specs.Running.{world, Ran}
use Rattle.btr_check.proofs.Datas.{AreLow, run_findings}
use Rattle.btr_check.proofs.Runs.{nothing}
use Rattle.btr_check.proofs.readable.put_data_findings.Given as goal

-- the runs so far
abbrev pub invariant-loop-run : goal.invariant-loop-run
invariant-loop-run g l = record {
  ahead : IsAhead (g.R.Rack.seen l.rack).held l.copies;
  ran : Ran {A = Unit {0}} nothing (λ fs. AreLow l.runs → Adds (flat_map (run_findings fs (tree_behind l.sums)) (take l.run-index l.runs)) l.fn.found l.found)
      (world (g.R.Rack.seen l.fn.rack) l.fn.vol) (world (g.R.Rack.seen l.rack) l.vol) (Ok tt);
}
