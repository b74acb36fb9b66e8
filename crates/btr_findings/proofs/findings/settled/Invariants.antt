use Rattle.std.proofs.Common.{◌≡◌, ◌-◌, length, drop}
use Rattle.btr_findings.specs.Runs.{runs_left}
use Rattle.btr_findings.proofs.findings.settled.Given as goal

-- the same findings are left
abbrev pub invariant-loop-place : goal.invariant-loop-place
invariant-loop-place l = runs_left (drop l.place.run l.runs) l.place.done ≡ runs_left (drop l.fn.place.run l.runs) l.fn.place.done

abbrev pub decreases-loop-place : goal.decreases-loop-place
decreases-loop-place l = length l.runs - l.place.run
