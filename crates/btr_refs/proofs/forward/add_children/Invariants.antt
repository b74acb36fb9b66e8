use Rattle.std.proofs.Common.{◌≡◌, fold, map, take}
use Rattle.btr_refs.specs.Forward.{tally_with, child_use}
use Rattle.btr_refs.proofs.forward.add_children.Given as goal

-- the children so far
abbrev pub invariant-loop-i : goal.invariant-loop-i
invariant-loop-i l = l.forward ≡ fold tally_with l.fn.forward (map (child_use l.from l.level) (take l.i l.node))
