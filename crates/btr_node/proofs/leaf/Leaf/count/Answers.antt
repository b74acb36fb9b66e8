use Rattle.std.proofs.Common.{sym, ◌∙◌, ap, List, map, length}
use Rattle.btr_node.specs.Block.{Item, ascends}
use Rattle.btr_node.proofs.Leaves.{length-items, ascends-items}
use Rattle.btr_node.proofs.leaf.Leaf.count.Goals as goal

pub returns-clause-ascending : goal.returns-clause-ascending
returns-clause-ascending c = ap (λ (list : List Item). ascends (map (λ item. item.key) list)) (sym c.self.view_is)
    ∙ ascends-items c.self.inside.block.now c.self.invariant.1

pub returns-clause-all : goal.returns-clause-all
returns-clause-all c = c.entry_count.ensures.count ∙ sym (length-items c.self.inside.block.now) ∙ ap length c.self.view_is
