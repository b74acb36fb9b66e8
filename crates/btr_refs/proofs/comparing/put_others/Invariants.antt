use Rattle.std.proofs.Common.{◌≡◌, ◌||◌, ℕ}
use Rattle.std.specs.List.{list_any}
use Rattle.btr_findings.specs.declared.finding.Finding.{Finding}
use Rattle.btr_findings.specs.Findings.{is_row, has}
use Rattle.btr_refs.specs.Differences.{count_row}
use Rattle.btr_refs.specs.declared.ref_key.RefKey.{RefKey}
use Rattle.btr_refs.proofs.comparing.put_others.Given as goal

-- what is left to be put, and what was put, are all rows
abbrev pub invariant-loop-key : goal.invariant-loop-key
invariant-loop-key l = (one : Finding) → (list_any (is_row (λ (entry : RefKey × ℕ). count_row entry.0 entry.1 0) one) l.key-iterator || has l.found one)
    ≡ (list_any (is_row (λ (entry : RefKey × ℕ). count_row entry.0 entry.1 0) one) l.others.entries || has l.fn.found one)
