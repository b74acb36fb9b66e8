use Rattle.std.proofs.Common.{◌≡◌, ◌||◌}
use Rattle.std.specs.BTreeSet.{contains}
use Rattle.std.specs.List.{list_any}
use Rattle.btr_check_names.specs.declared.dir_entry.DirEntry.{DirEntry}
use Rattle.btr_check_names.specs.Entry.{entry_of}
use Rattle.btr_check_names.specs.Names.{is_entry}
use Rattle.btr_check_names.specs.Sets.{entry_cmp}
use Rattle.btr_check_names.proofs.sets.entries_of.Given as goal

-- what was put, and what is left to be put, are all
abbrev pub invariant-loop-entry : goal.invariant-loop-entry
invariant-loop-entry l = (one : DirEntry) → (contains entry_cmp l.set one || list_any (is_entry (entry_of one)) l.entry-iterator)
    ≡ list_any (is_entry (entry_of one)) l.entries
