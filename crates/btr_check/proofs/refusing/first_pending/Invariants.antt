use Rattle.std.proofs.Common.{◌≡◌, take, filter_map, IfSome}
use Rattle.btr_check.specs.Before.{pending, first_of, OfList}
use Rattle.btr_check.proofs.refusing.first_pending.Given as goal

-- the first of the trees so far
abbrev pub invariant-loop-tree : goal.invariant-loop-tree
invariant-loop-tree l = record {
  value : l.first ≡ first_of (filter_map pending (take l.tree-index l.trees));
  listed : IfSome l.first OfList;
}
