use Rattle.std.proofs.Common.{◌+◌, ◌*◌, length, Ok}
use Rattle.btr_restore.specs.Ends.{SameEnds, world_of}
use Rattle.btr_restore.specs.Listing.{KeepsDepth}
use Rattle.btr_salvage.specs.Folders.{rank_of_folder}
use Rattle.btr_salvage.specs.Listing.{IsUnderway, listing_for, meet_in}
use Rattle.btr_salvage.proofs.listing.+listing.Given as goal

abbrev pub decreases-list : goal.decreases-list
decreases-list g l = 4 * length l.below.now + 3

abbrev pub decreases-list_found : goal.decreases-list_found
decreases-list_found g l = 4 * length l.below.now + 2

abbrev pub decreases-list_entry : goal.decreases-list_entry
decreases-list_entry g l = 4 * length l.below.now + 1

abbrev pub decreases-list_within : goal.decreases-list_within
decreases-list_within g l = 4 * length l.folders.now

abbrev pub invariant-list-loop-fault : goal.invariant-list-loop-fault
invariant-list-loop-fault g l =
    SameEnds l.initial.ends l.ends
    × IsUnderway (λ s n. meet_in l.dir.job.now.plan s l.dir.job.now.sums n l.dir.tree l.dir.dirid)
    (listing_for l.dir.job.now (length l.initial.below) l.dir.tree l.dir.dirid l.initial.path l.initial.salvaged) (length l.initial.below) l.initial.path
    (world_of g.R.Rack.seen g.T.TreeSink.sink g.T.TreeSink.account g.O.Out.text g.O.Out.account l.initial.ends)
    (world_of g.R.Rack.seen g.T.TreeSink.sink g.T.TreeSink.account g.O.Out.text g.O.Out.account l.ends)
    l.salvaged l.here.folder l.path (length l.below)
    × KeepsDepth l.dir.job.now.plan.dry (g.T.TreeSink.sink l.initial.ends.tree.now) (g.T.TreeSink.sink l.ends.tree.now) (Ok tt)

abbrev pub decreases-list-loop-fault : goal.decreases-list-loop-fault
decreases-list-loop-fault g l = rank_of_folder l.here.folder
