use Rattle.std.proofs.Common.{take}
use Rattle.btr_findings.specs.Findings.{Adds}
use Rattle.btr_check.proofs.adding.put_all.Given as goal

-- the findings so far
abbrev pub invariant-loop-finding : goal.invariant-loop-finding
invariant-loop-finding l = Adds (take l.finding-index l.list) l.fn.found l.found
