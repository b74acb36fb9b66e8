use Rattle.btr_node.specs.Block.{item_at}
use Rattle.btr_node.proofs.leaf.item_offset.Goals as goal

pub returns : goal.returns
unfolding item_at
returns c = c.u32_at.ensures
