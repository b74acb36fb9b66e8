use Rattle.std.proofs.Common.{length}
use Rattle.btr_chunk.proofs.extents.+enter.Given as goal

abbrev pub decreases-enter : goal.decreases-enter
decreases-enter l = length l.stripes.now
