use Rattle.std.proofs.Common.{◌≡◌, filter, take}
use Rattle.btr_base.specs.Key.{last_key}
use Rattle.btr_tour.specs.Tour.{first_key, child_pointers, meets_keys}
use Rattle.btr_check.proofs.opening.children_of.Given as goal

-- the children so far
abbrev pub invariant-loop-at : goal.invariant-loop-at
invariant-loop-at l = l.block_pointers.items ≡ filter (meets_keys first_key last_key) (take l.at (child_pointers l.inner l.up))
