use Rattle.std.proofs.Common.{◌≡◌, ◌||◌}
use Rattle.std.specs.List.{list_any}
use Rattle.btr_findings.specs.Findings.{is_row, has}
use Rattle.btr_findings.specs.declared.finding.Finding.{Finding}
use Rattle.btr_check_names.specs.Subvolumes.{Subvolumes, name_kept, HasNames}
use Rattle.btr_check_names.proofs.put_subvolumes.put_names.Given as goal

-- what was found, and what is left to be judged, are all
abbrev pub invariant-loop-name : goal.invariant-loop-name
invariant-loop-name l = (names : Subvolumes) → HasNames names.refs l.standing.refs → HasNames names.backrefs l.standing.backrefs
    → HasNames names.entries l.standing.entries
    → (one : Finding) → (list_any (is_row (name_kept names) one) l.name-iterator || has l.found one)
    ≡ (list_any (is_row (name_kept names) one) l.list || has l.fn.found one)
