use Rattle.btr_node.specs.Block.{pointer_at}
use Rattle.btr_node.proofs.inner.pointer_at.Goals as goal

pub returns-clause-addr : goal.returns-clause-addr
unfolding pointer_at
returns-clause-addr c = c.u64_at.ensures

pub returns-clause-generation : goal.returns-clause-generation
unfolding pointer_at
returns-clause-generation c = c.u64_at-2.ensures
