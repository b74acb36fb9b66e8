use Rattle.std.proofs.Common.{◌≡◌, ◌||◌}
use Rattle.btr_findings.specs.declared.finding.Finding.{Finding}
use Rattle.btr_findings.specs.Findings.{has, is_one_of}
use Rattle.btr_refs.proofs.comparing.put_each.Given as goal

-- what is left to be put, and what was put, are all findings
abbrev pub invariant-loop-finding : goal.invariant-loop-finding
invariant-loop-finding l = (one : Finding) → (is_one_of l.finding-iterator one || has l.found one) ≡ (is_one_of l.findings.keys one || has l.fn.found one)
