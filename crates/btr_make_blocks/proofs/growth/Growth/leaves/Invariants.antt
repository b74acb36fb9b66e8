use Rattle.std.proofs.Common.{length}
use Rattle.btr_make_blocks.proofs.growth.Growth.leaves.Given as goal

abbrev pub decreases-loop-item : goal.decreases-loop-item
decreases-loop-item l = length l.rest
