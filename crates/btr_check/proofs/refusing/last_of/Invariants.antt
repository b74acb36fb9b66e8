use Rattle.std.proofs.Common.{◌≡◌, take}
use Rattle.btr_check.specs.Trees.{last_of}
use Rattle.btr_check.proofs.refusing.last_of.Given as goal

-- the last of the trees so far
abbrev pub invariant-loop-tree : goal.invariant-loop-tree
invariant-loop-tree l = l.last ≡ last_of l.id (take l.tree-index l.trees)
