use Rattle.std.proofs.Common.{◌≡◌, ◌++◌}
use Rattle.btr_check_names.specs.Subvolumes.{names_at}
use Rattle.btr_check_names.proofs.subvolume_names.push_entries.Given as goal

-- what was kept, and what is left to be kept, are all
abbrev pub invariant-loop-entry : goal.invariant-loop-entry
invariant-loop-entry l = l.list ++ names_at l.tree l.entry-iterator ≡ l.fn.list ++ names_at l.tree l.entries
