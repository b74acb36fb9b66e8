use Rattle.btr_findings.specs.Findings.{Adds}
use Rattle.btr_findings.specs.Sectors.{sector_findings}
use Rattle.btr_findings.proofs.found.put_each.Given as goal

-- the findings on the sectors so far
abbrev pub invariant-loop-i : goal.invariant-loop-i
invariant-loop-i l = Adds (sector_findings l.rule l.start l.i) l.fn.found l.found
