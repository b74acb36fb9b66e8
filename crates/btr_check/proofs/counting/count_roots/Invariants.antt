use Rattle.std.proofs.Common.{◌≡◌, take, map, fold}
use Rattle.btr_refs.specs.Forward.{tally_with, root_use}
use Rattle.btr_check.proofs.counting.count_roots.Given as goal

-- the uses by the trees so far
abbrev pub invariant-loop-tree : goal.invariant-loop-tree
invariant-loop-tree l = l.forward ≡ fold tally_with l.fn.forward (map root_use (take l.tree-index l.trees))
