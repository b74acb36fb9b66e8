use Rattle.std.proofs.Common.{◌≡◌, ◌++◌, filter, take}
use Rattle.btr_base.specs.Key.{last_key}
use Rattle.btr_tour.specs.Tour.{first_key, child_pointers, meets_keys}
use Rattle.btr_check_differences.proofs.children.push_children.Given as goal

-- the children so far were put
abbrev pub invariant-loop-at : goal.invariant-loop-at
invariant-loop-at l = l.children.items ≡ l.fn.children.items ++ filter (meets_keys first_key last_key) (take l.at (child_pointers l.inner l.up))
