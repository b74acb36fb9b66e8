use Rattle.std.proofs.Common.{length}
use Rattle.btr_scrub.proofs.InRows.{CollectsSoFar}
use Rattle.btr_scrub.proofs.rowed.collect.Given as goal

abbrev pub invariant-loop-want : goal.invariant-loop-want
invariant-loop-want l = CollectsSoFar l.chunk l.row l.fn.first l.fn.blocks l.blocks l.wants.items

abbrev pub decreases-loop-want : goal.decreases-loop-want
decreases-loop-want l = length l.blocks
