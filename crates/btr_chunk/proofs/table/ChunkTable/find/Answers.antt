use Rattle.std.proofs.Common.{sym}
use Rattle.btr_chunk.proofs.Tables.{chunk_at-none, chunk_at-last, chunk_at-past}
use Rattle.btr_chunk.proofs.table.ChunkTable.find.Goals as goal

pub returns-in_err-chunk-clause-chunk : goal.returns-in_err-chunk-clause-chunk
returns-in_err-chunk-clause-chunk c =
    let index = c.self.invariant in
    rw (← c.self.view_is, c.from_residual.ensures) (sym (chunk_at-none c.self.inside.chunks c.args.addr index.chunks index.ordered c.in_err-chunk.ensures))

pub returns-then-addr-chunk-clause-chunk : goal.returns-then-addr-chunk-clause-chunk
returns-then-addr-chunk-clause-chunk c =
    let index = c.self.invariant in
    rw (← c.self.view_is)
    (sym (chunk_at-last c.self.inside.chunks c.args.addr c.in_ok-chunk.chunk.now index.chunks index.ordered c.in_ok-chunk.ensures c.if-addr-chunk.true))

pub returns-then-addr-chunk-clause-sound : goal.returns-then-addr-chunk-clause-sound
returns-then-addr-chunk-clause-sound c =
    let last = c.in_ok-chunk.ensures in
    c.self.invariant.chunks.sound last.start c.in_ok-chunk.chunk.now last.there

pub returns-then-addr-chunk-clause-spread : goal.returns-then-addr-chunk-clause-spread
returns-then-addr-chunk-clause-spread c =
    let last = c.in_ok-chunk.ensures in
    c.self.invariant.chunks.spread last.start c.in_ok-chunk.chunk.now last.there

pub returns-else-addr-chunk-clause-chunk : goal.returns-else-addr-chunk-clause-chunk
returns-else-addr-chunk-clause-chunk c =
    let index = c.self.invariant in
    rw (← c.self.view_is)
    (sym (chunk_at-past c.self.inside.chunks c.args.addr c.in_ok-chunk.chunk.now index.chunks index.ordered c.in_ok-chunk.ensures c.if-addr-chunk.false))
