use Rattle.std.proofs.Common.{take}
use Rattle.btr_scrub_row.proofs.Common.{GatheredSoFar, Images, IsInMemory, Target}
use Rattle.btr_scrub_row.proofs.gathering.gather.Given as goal

abbrev pub invariant-loop-slice : goal.invariant-loop-slice
invariant-loop-slice l = (images : Images) (t : Target) → IsInMemory images t l.piece l.bytes
    → GatheredSoFar images t l.candidate l.parity l.slice (take l.piece.len l.sum)
