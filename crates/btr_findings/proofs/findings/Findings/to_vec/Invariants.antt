use Rattle.std.proofs.Common.{◌≡◌, ◌++◌, length}
use Rattle.btr_findings.proofs.findings.Findings.to_vec.Given as goal

-- those that were taken, and those that are left
abbrev pub invariant-loop-finding : goal.invariant-loop-finding
invariant-loop-finding l = l.list.items ++ l.self ≡ l.fn.self

abbrev pub decreases-loop-finding : goal.decreases-loop-finding
decreases-loop-finding l = length l.self
