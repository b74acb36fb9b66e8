use Rattle.btr_chunk.proofs.Values.{start_of-values}
use Rattle.btr_chunk.proofs.table.ChunkTable.at.Goals as goal

pub returns-clause-sound : goal.returns-clause-sound
returns-clause-sound c =
    let index = c.self.invariant in
    let key = start_of-values c.self.inside.chunks index.ordered c.args.i c.chunk_at.result.now c.chunk_at.ensures in
    index.chunks.sound key.0 c.chunk_at.result.now key.1

pub returns-clause-spread : goal.returns-clause-spread
returns-clause-spread c =
    let index = c.self.invariant in
    let key = start_of-values c.self.inside.chunks index.ordered c.args.i c.chunk_at.result.now c.chunk_at.ensures in
    index.chunks.spread key.0 c.chunk_at.result.now key.1
