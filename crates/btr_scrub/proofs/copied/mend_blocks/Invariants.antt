use Rattle.std.proofs.Common.{◌≡◌, Some, length, slice_get}
use Rattle.btr_scrub.proofs.Common.{CanMend, Chunk, SameLoans, flagged}
use Rattle.btr_scrub.proofs.Blockwise.{IsUnderway}
use Rattle.btr_scrub.proofs.copied.mend_blocks.Given as goal

abbrev pub invariant-loop-want : goal.invariant-loop-want
invariant-loop-want g l = record {
  ready : CanMend l.task.how.write (g.R.Rack.seen l.rack) l.store l.progress.marks.items;
  loans : SameLoans l.fn.store l.store;
  underway : (chunk : Chunk) → slice_get l.fn.store.layout.chunks l.task.number ≡ Some chunk
      → IsUnderway (flagged l.task.how.failing.now) l.fn.store.layout l.task.how.write chunk l.fn.blocks l.blocks l.fn.progress.marks.items
      l.progress.marks.items (g.R.Rack.seen l.fn.rack) (g.R.Rack.seen l.rack) l.fn.progress.tally l.progress.tally;
}

abbrev pub decreases-loop-want : goal.decreases-loop-want
decreases-loop-want g l = length l.blocks
