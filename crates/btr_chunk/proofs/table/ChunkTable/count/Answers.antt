use Rattle.btr_chunk.proofs.Tables.{IsTable-values}
use Rattle.btr_chunk.proofs.table.ChunkTable.count.Goals as goal

pub returns-clause-table : goal.returns-clause-table
returns-clause-table c =
    let index = c.self.invariant in
    rw (← c.self.view_is) (IsTable-values c.self.inside.chunks index.chunks index.ordered index.few)
