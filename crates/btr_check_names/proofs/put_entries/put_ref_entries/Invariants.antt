use Rattle.std.proofs.Common.{◌≡◌, ◌||◌}
use Rattle.std.specs.List.{list_any}
use Rattle.btr_findings.specs.Findings.{is_row, has}
use Rattle.btr_findings.specs.declared.finding.Finding.{Finding}
use Rattle.btr_check_names.specs.Names.{ref_entry}
use Rattle.btr_check_names.proofs.put_entries.put_ref_entries.Given as goal

-- what was found, and what is left to be judged, are all
abbrev pub invariant-loop-link : goal.invariant-loop-link
invariant-loop-link l = (one : Finding) → (list_any (is_row (ref_entry l.tree l.dirid l.indexed) one) l.link-iterator || has l.found one)
    ≡ (list_any (is_row (ref_entry l.tree l.dirid l.indexed) one) l.refs || has l.fn.found one)
