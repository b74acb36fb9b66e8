use Rattle.btr_scrub_copies.proofs.Syncs.{SyncedSoFar}
use Rattle.btr_scrub_copies.proofs.syncing.sync_marked.Given as goal

abbrev pub invariant-loop-slot : goal.invariant-loop-slot
invariant-loop-slot g l = SyncedSoFar l.initial.marks l.marks l.slot (g.R.Rack.seen l.initial.rack) (g.R.Rack.seen l.rack)
