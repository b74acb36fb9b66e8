use Rattle.std.proofs.Common.{◌≡◌, map, take}
use Rattle.btr_check_sums.specs.Ranks.{run_start}
use Rattle.btr_check_sums.proofs.overlaps.starts_of.Given as goal

-- those of the runs so far
abbrev pub invariant-loop-run : goal.invariant-loop-run
invariant-loop-run l = l.starts.items ≡ map run_start (take l.run-index l.runs)
