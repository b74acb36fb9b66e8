use Rattle.std.proofs.Common.{length, sym, ◌∙◌, ap, arith}
use Rattle.btr_node.specs.Block.{Item}
use Rattle.btr_node.proofs.Leaves.{leaf_fits, length-items, item_seen}
use Rattle.btr_node.proofs.leaf.Leaf.offset.Goals as goal

pub item_offset-requires : goal.item_offset-requires
item_offset-requires c =
    let block = c.self.inside.block.now in
    omega (arith, leaf_fits block c.self.invariant.0 c.self.invariant.1, length-items block, ap length c.self.view_is)

pub returns : goal.returns
returns c = λ d. ap (λ (item : Item). item.offset) ((item_seen c.self.inside.block.now c.args.self.now c.self.view_is).at c.args.i d c.requires)
    ∙ sym c.item_offset.ensures
