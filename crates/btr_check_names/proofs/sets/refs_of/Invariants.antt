use Rattle.std.proofs.Common.{◌≡◌, ◌||◌}
use Rattle.std.specs.BTreeSet.{contains}
use Rattle.std.specs.List.{list_any}
use Rattle.btr_check_names.specs.declared.link_name.LinkName.{LinkName}
use Rattle.btr_check_names.specs.Entry.{ref_of}
use Rattle.btr_check_names.specs.Names.{same_ref}
use Rattle.btr_check_names.specs.Sets.{link_cmp}
use Rattle.btr_check_names.proofs.sets.refs_of.Given as goal

-- what was put, and what is left to be put, are all
abbrev pub invariant-loop-link : goal.invariant-loop-link
invariant-loop-link l = (one : LinkName) → (contains link_cmp l.set one || list_any (same_ref (ref_of one)) l.link-iterator)
    ≡ list_any (same_ref (ref_of one)) l.refs
