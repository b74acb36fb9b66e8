use Rattle.std.proofs.Common.{take}
use Rattle.btr_node.specs.Block.{items}
use Rattle.btr_check.specs.Passing.{WalksItems}
use Rattle.btr_check.proofs.opening.walk_items.Given as goal

-- the items so far were walked
abbrev pub invariant-loop-at : goal.invariant-loop-at
invariant-loop-at l = WalksItems l.addr (take l.at (items l.block)) l.fn.walk l.walk l.edges
