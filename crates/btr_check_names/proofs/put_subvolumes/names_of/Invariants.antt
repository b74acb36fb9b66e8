use Rattle.std.proofs.Common.{◌≡◌, ◌||◌}
use Rattle.std.specs.BTreeSet.{contains}
use Rattle.std.specs.List.{list_any}
use Rattle.btr_check_names.specs.declared.subvolume_name.SubvolumeName.{SubvolumeName}
use Rattle.btr_check_names.specs.Subvolume.{name_of}
use Rattle.btr_check_names.specs.Subvolumes.{name_cmp, same_name}
use Rattle.btr_check_names.proofs.put_subvolumes.names_of.Given as goal

-- what was put, and what is left to be put, are all
abbrev pub invariant-loop-name : goal.invariant-loop-name
invariant-loop-name l = (one : SubvolumeName) → (contains name_cmp l.set one || list_any (same_name (name_of one)) l.name-iterator)
    ≡ list_any (same_name (name_of one)) l.names
