use Rattle.std.proofs.Common.{◌≡◌, take}
use Rattle.std.specs.BTreeSet.{contains}
use Rattle.std.specs.List.{list_any}
use Rattle.btr_check_names.specs.declared.mode_at.ModeAt.{ModeAt}
use Rattle.btr_check_names.specs.Sets.{mode_cmp, is_mode}
use Rattle.btr_check_names.proofs.sets.modes_of.Given as goal

-- the modes of the inodes so far
abbrev pub invariant-loop-at : goal.invariant-loop-at
invariant-loop-at l = (one : ModeAt) → contains mode_cmp l.set one ≡ list_any (is_mode one) (take l.at-index l.inodes)
