use Rattle.std.proofs.Common.{◌≡◌, map, take}
use Rattle.btr_check_sums.specs.Sums.{run_range}
use Rattle.btr_check_sums.proofs.missing.sum_ranges.Given as goal

-- the ranges of the runs so far
abbrev pub invariant-loop-run : goal.invariant-loop-run
invariant-loop-run l = l.ranges.items ≡ map run_range (take l.run-index l.runs)
