use Rattle.std.proofs.Common.{◌<◌, ◌^◌, Ok, filter_map, take}
use Rattle.btr_ahead.specs.Ahead.{IsAhead}
use Rattle.btr_files.specs.Aheads.{IsSummed}
use Rattle.btr_files.specs.Sums.{tree_behind}
use Rattle.btr_findings.specs.Findings.{Adds}
use Rattle.btr_check_sums.specs.Ranks.{run_end}
use Rattle.btr_check_sums.specs.Sums.{run_sectors}
use Rattle.btr_check.specs.Data.{data_lost}
use Rattle.btr_check.specs.Running.{world, Ran}
use Rattle.btr_check.proofs.Runs.{nothing}
use Rattle.btr_check.proofs.readable.put_run.Given as goal

-- the sectors so far
abbrev pub invariant-loop-i : goal.invariant-loop-i
invariant-loop-i g l = record {
  ahead : IsAhead (g.R.Rack.seen l.rack).held l.copies;
  ran : Ran {A = Unit {0}} nothing (λ fs. run_end l.run < 2 ^ 64 → IsSummed fs.blocks (tree_behind l.sums) l.ahead
      × Adds (filter_map (data_lost fs (tree_behind l.sums)) (take l.i (run_sectors l.run))) l.fn.found l.found) (world (g.R.Rack.seen l.fn.rack) l.fn.vol)
      (world (g.R.Rack.seen l.rack) l.vol) (Ok tt);
}
