use Rattle.std.proofs.Common.{◌*◌, ◌+◌, ℕ, Ok, Option, take}
use Rattle.btr_check.proofs.walking.+walking.Given as goal
use Rattle.btr_check.proofs.Runs.{nothing}
use Rattle.btr_check.specs.Passing.{Walks, children_marks}
use Rattle.btr_check.specs.Running.{world, Ran}
use Rattle.btr_check.specs.declared.subtrees.Edges.{Edges}

-- the level goes down from a block to its children
abbrev pub decreases-walk_block : goal.decreases-walk_block
decreases-walk_block g l = 3 * l.level + 1

abbrev pub decreases-walk_below : goal.decreases-walk_below
decreases-walk_below g l = 3 * l.level

abbrev pub decreases-walk_children : goal.decreases-walk_children
decreases-walk_children g l = 3 * l.level + 2

-- the children so far were walked
abbrev pub invariant-walk_children-loop-pointer : goal.invariant-walk_children-loop-pointer
invariant-walk_children-loop-pointer g l = record {
  ran : Ran {A = Option Edges} nothing (λ fs. (addr : ℕ) → Walks fs (children_marks fs addr l.level (take l.pointer-index l.block_pointers)) l.fn.walk l.walk
      l.fn.subtrees.known.entries l.subtrees.known.entries (Ok l.edges)) (world (g.R.Rack.seen l.fn.rack) l.fn.vol)
      (world (g.R.Rack.seen l.rack) l.vol) (Ok l.edges);
}
