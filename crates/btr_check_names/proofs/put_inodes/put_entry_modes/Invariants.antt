use Rattle.std.proofs.Common.{◌≡◌, ◌||◌}
use Rattle.std.specs.List.{list_any}
use Rattle.btr_findings.specs.Findings.{is_row, has}
use Rattle.btr_findings.specs.declared.finding.Finding.{Finding}
use Rattle.btr_check_names.specs.Names.{entry_mode}
use Rattle.btr_check_names.proofs.put_inodes.put_entry_modes.Given as goal

-- what was found, and what is left to be judged, are all
abbrev pub invariant-loop-entry : goal.invariant-loop-entry
invariant-loop-entry l = (one : Finding) → (list_any (is_row (entry_mode l.tree l.fn.removed l.inodes) one) l.entry-iterator || has l.found one)
    ≡ (list_any (is_row (entry_mode l.tree l.fn.removed l.inodes) one) l.indexed || has l.fn.found one)
