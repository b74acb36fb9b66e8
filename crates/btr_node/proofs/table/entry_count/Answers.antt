use Rattle.btr_node.specs.Block.{entry_count}
use Rattle.btr_node.proofs.table.entry_count.Goals as goal

pub returns-clause-count : goal.returns-clause-count
unfolding entry_count
returns-clause-count c = c.u32_at.ensures
