use Rattle.std.proofs.Common.{◌≡◌, take}
use Rattle.btr_check_names.specs.Names.{removed_dirs}
use Rattle.btr_check_names.proofs.put_inodes.removed_dirs.Given as goal

-- those among the inodes so far
abbrev pub invariant-loop-at : goal.invariant-loop-at
invariant-loop-at l = l.removed.items ≡ removed_dirs l.fn.orphans (take l.at-index l.inodes)
