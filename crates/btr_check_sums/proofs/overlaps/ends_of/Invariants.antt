use Rattle.std.proofs.Common.{◌≡◌, map, take}
use Rattle.btr_check_sums.specs.Ranks.{run_end}
use Rattle.btr_check_sums.proofs.overlaps.ends_of.Given as goal

-- those of the runs so far
abbrev pub invariant-loop-run : goal.invariant-loop-run
invariant-loop-run l = l.ends.items ≡ map run_end (take l.run-index l.runs)
