use Rattle.std.proofs.Common.{ℕ, length}
use Rattle.btr_scrub.proofs.Common.{AreUpTo, IsFirstRefused, TreeFault}
use Rattle.btr_scrub.proofs.judging.judge_blocks.Given as goal

abbrev pub invariant-loop-want : goal.invariant-loop-want
invariant-loop-want l = record {
  ahead : (to : ℕ) → AreUpTo l.store.layout l.end to l.blocks → AreUpTo l.store.layout l.from to l.initial.blocks;
  refused : (fault : TreeFault) → IsFirstRefused l.store.layout l.end l.blocks fault → IsFirstRefused l.store.layout l.from l.initial.blocks fault;
}

abbrev pub decreases-loop-want : goal.decreases-loop-want
decreases-loop-want l = length l.blocks
