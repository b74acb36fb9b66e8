use Rattle.std.proofs.Common.{◌≡◌, ◌||◌}
use Rattle.std.specs.BTreeSet.{contains}
use Rattle.std.specs.List.{list_any}
use Rattle.btr_check_names.specs.declared.link_name.LinkName.{LinkName}
use Rattle.btr_check_names.specs.Entry.{ref_of}
use Rattle.btr_check_names.specs.Names.{same_ref, asked}
use Rattle.btr_check_names.specs.Sets.{link_cmp}
use Rattle.btr_check_names.proofs.sets.refs_asked.Given as goal

-- what was put, and what is left to be put, are all
abbrev pub invariant-loop-entry : goal.invariant-loop-entry
invariant-loop-entry l = (one : LinkName) → (contains link_cmp l.set one || list_any (same_ref (ref_of one)) (asked l.entry-iterator))
    ≡ list_any (same_ref (ref_of one)) (asked l.entries)
