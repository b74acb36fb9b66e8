use Rattle.std.proofs.Common.{[], take, Ok}
use Rattle.btr_check.specs.Passing.{Knows}
use Rattle.btr_check.specs.Running.{world, Ran}
use Rattle.btr_check.specs.Walking.{HasWalked}
use Rattle.btr_check.proofs.Runs.{nothing}
use Rattle.btr_check.proofs.walking.walk_more.Given as goal

-- the trees so far were walked
abbrev pub invariant-loop-tree : goal.invariant-loop-tree
invariant-loop-tree g l = record {
  ran : Ran {A = Unit {0}} nothing (λ fs. HasWalked fs [] l.fn.walk → Knows fs l.fn.walk l.fn.subtrees.known.entries
      → HasWalked fs (take l.tree-index l.trees) l.walk × Knows fs l.walk l.subtrees.known.entries) (world (g.R.Rack.seen l.fn.rack) l.fn.vol)
      (world (g.R.Rack.seen l.rack) l.vol) (Ok tt);
}
