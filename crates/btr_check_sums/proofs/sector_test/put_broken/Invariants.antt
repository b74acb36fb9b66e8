use Rattle.std.proofs.Common.{◌-◌, ◌≤◌, filter_map}
use Rattle.btr_findings.specs.Findings.{Adds}
use Rattle.btr_findings.specs.Sectors.{sectors}
use Rattle.btr_check_sums.specs.Broken.{broken}
use Rattle.btr_check_sums.proofs.sector_test.put_broken.Given as goal

-- the findings on the sectors so far
abbrev pub invariant-loop-done : goal.invariant-loop-done
invariant-loop-done g l = (l.done ≤ l.count) × Adds (filter_map (broken l.rule (g.T.SectorTest.keeps l.test)) (sectors l.start l.done)) l.fn.found l.found

abbrev pub decreases-loop-done : goal.decreases-loop-done
decreases-loop-done g l = l.count - l.done
