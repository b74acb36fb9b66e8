use Rattle.std.proofs.Common.{sym}
use Rattle.btr_chunk.proofs.Tables.{next_at-first, next_at-none}
use Rattle.btr_chunk.proofs.table.ChunkTable.next.Goals as goal

pub returns-in_err-chunk-clause-chunk : goal.returns-in_err-chunk-clause-chunk
returns-in_err-chunk-clause-chunk c =
    let index = c.self.invariant in
    rw (← c.self.view_is, c.from_residual.ensures) (sym (next_at-none c.self.inside.chunks c.args.addr index.chunks index.ordered c.in_err-chunk.ensures))

pub returns-clause-chunk : goal.returns-clause-chunk
returns-clause-chunk c =
    let index = c.self.invariant in
    rw (← c.self.view_is) (sym (next_at-first c.self.inside.chunks c.args.addr c.in_ok-chunk.chunk.now index.chunks index.ordered index.few
    c.in_ok-chunk.ensures))

pub returns-clause-sound : goal.returns-clause-sound
returns-clause-sound c =
    let first = c.in_ok-chunk.ensures in
    c.self.invariant.chunks.sound first.start c.in_ok-chunk.chunk.now first.there

pub returns-clause-spread : goal.returns-clause-spread
returns-clause-spread c =
    let first = c.in_ok-chunk.ensures in
    c.self.invariant.chunks.spread first.start c.in_ok-chunk.chunk.now first.there
