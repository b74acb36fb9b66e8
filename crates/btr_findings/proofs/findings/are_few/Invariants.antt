use Rattle.std.proofs.Common.{◌≡◌, ◌+◌, ◌<◌, ◌^◌, length, take}
use Rattle.btr_findings.specs.Sectors.{runs_findings}
use Rattle.btr_findings.proofs.findings.are_few.Given as goal

-- how many the runs so far have
abbrev pub invariant-loop-run : goal.invariant-loop-run
invariant-loop-run l = (l.count ≡ length l.single + length (runs_findings (take l.run-index l.runs))) × (l.count < 2 ^ 64)
