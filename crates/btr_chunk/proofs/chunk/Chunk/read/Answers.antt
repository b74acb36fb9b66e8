use Rattle.std.proofs.Common.{rules, arith}
use Rattle.btr_chunk.proofs.chunk.Chunk.read.Goals as goal

pub returns-clause-sound : goal.returns-clause-sound
returns-clause-sound c = record { few = omega (arith, c.in_ok-read.ensures.len); kind = search rules; rule = search rules }
