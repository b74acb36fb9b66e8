use Rattle.std.proofs.Common.{◌≡◌, ◌+◌, ◌*◌, length}
use Rattle.btr_files.specs.Listing.{rank_of_dir}
use Rattle.btr_rack.specs.Sink.{InFile}
use Rattle.btr_restore.specs.Ends.{SameEnds, world_of}
use Rattle.btr_restore.specs.Listing.{IsUnderway}
use Rattle.btr_send.specs.Listing.{listing_for, treat_in}
use Rattle.btr_send.proofs.listing.+listing.Given as goal

abbrev pub decreases-list : goal.decreases-list
decreases-list g l = 3 * length l.below.now + 2

abbrev pub decreases-list_entry : goal.decreases-list_entry
decreases-list_entry g l = 3 * length l.below.now + 1

abbrev pub decreases-list_within : goal.decreases-list_within
decreases-list_within g l = 3 * length l.dirs.now

abbrev pub invariant-list-loop-fault : goal.invariant-list-loop-fault
invariant-list-loop-fault g l =
    SameEnds l.initial.ends l.ends
    × IsUnderway (λ s n. treat_in l.dir.sums s n l.dir.tree l.dir.dirid)
    (listing_for l.dir.sums (length l.initial.below) l.dir.tree l.dir.dirid l.initial.scratch.path l.initial.counts) (length l.initial.below)
    l.initial.scratch.path
    (world_of g.R.Rack.seen g.T.TreeSink.sink g.T.TreeSink.account g.O.Out.text g.O.Out.account l.initial.ends)
    (world_of g.R.Rack.seen g.T.TreeSink.sink g.T.TreeSink.account g.O.Out.text g.O.Out.account l.ends)
    l.counts l.here.dir l.scratch.path (length l.below)
    × ((g.T.TreeSink.sink l.ends.tree.now).stage ≡ InFile)

abbrev pub decreases-list-loop-fault : goal.decreases-list-loop-fault
decreases-list-loop-fault g l = rank_of_dir l.here.dir
