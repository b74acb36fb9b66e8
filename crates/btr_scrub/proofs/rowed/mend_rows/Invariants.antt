use Rattle.std.proofs.Common.{length}
use Rattle.btr_scrub.proofs.Common.{CanMend, Chunk, HasRooms, SameLoans, flagged}
use Rattle.btr_scrub.proofs.RowNumbers.{IsWholeChunk}
use Rattle.btr_scrub.proofs.Rowwise.{RowsUnderway}
use Rattle.btr_scrub.proofs.rowed.mend_rows.Given as goal

abbrev pub invariant-loop-first : goal.invariant-loop-first
invariant-loop-first g l = record {
  ready : CanMend l.task.how.write (g.R.Rack.seen l.rack) l.store l.progress.marks.items;
  loans : SameLoans l.fn.store l.store;
  rooms : HasRooms l.fn.store.layout l.room.buffer;
  underway : (chunk : Chunk) (s : IsWholeChunk l.fn.store.layout l.task.number chunk)
      → RowsUnderway s (flagged l.task.how.failing.now) l.fn.blocks l.task.how.write l.blocks l.fn.progress.marks.items l.progress.marks.items
      (g.R.Rack.seen l.fn.rack) (g.R.Rack.seen l.rack) l.fn.progress.tally l.progress.tally;
}

abbrev pub decreases-loop-first : goal.decreases-loop-first
decreases-loop-first g l = length l.blocks
