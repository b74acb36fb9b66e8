use Rattle.std.proofs.Common.{◌≡◌, ◌-◌}
use Rattle.btr_trial.specs.Stated.{directories, same_rows}
use Rattle.btr_trial.proofs.comparing.are_directories.Given as goal

abbrev pub invariant-loop-i : goal.invariant-loop-i
invariant-loop-i l = same_rows l.rows (directories 0 l.number) ≡ same_rows l.left (directories l.i (l.number - l.i))
