use Rattle.btr_scrub.proofs.Common.{CanMend, HasRooms, SameLoans, flagged}
use Rattle.btr_scrub.proofs.Working.{ChunksPast}
use Rattle.btr_scrub.proofs.mending.mend_all.Given as goal

abbrev pub invariant-loop-number : goal.invariant-loop-number
invariant-loop-number g l = record {
  ready : CanMend l.task.write (g.R.Rack.seen l.rack) l.store l.progress.marks.items;
  loans : SameLoans l.initial.store l.store;
  rooms : HasRooms l.initial.store.layout l.room.buffer;
  past : ChunksPast (flagged l.task.failing.now) l.initial.store.layout l.initial.blocks l.task.write l.blocks l.number
      (g.R.Rack.seen l.initial.rack) (g.R.Rack.seen l.rack) l.initial.progress.tally l.progress.tally;
}
