use Rattle.std.proofs.Common.{◌≡◌, length}
use Rattle.btr_chunk.specs.Array.{array_after, array_of}
use Rattle.btr_chunk.proofs.array.read_array.Given as goal

abbrev pub invariant-loop-rest : goal.invariant-loop-rest
invariant-loop-rest l = array_after (length l.rest) l.table l.rest ≡ array_of l.bytes

abbrev pub decreases-loop-rest : goal.decreases-loop-rest
decreases-loop-rest l = length l.rest
