use Rattle.std.proofs.Common.{◌≡◌, ℕ, Bool, false, List, Option}
use Rattle.btr_rack.specs.Out.{CallAccount}
use Rattle.btr_rack.specs.Sink.{InFile}
use Rattle.btr_read.specs.Store.{SameLoans}
use Rattle.btr_volume.specs.Lookup.{Program}
use Rattle.btr_files.specs.Streaming.{bytes_left, IsReading, without_file}
use Rattle.btr_restore.specs.Journey.{put}
use Rattle.btr_restore.specs.Running.{World, outside, world}
use Rattle.btr_listing.specs.Step.{Step}
use Rattle.btr_restore.specs.Writing.{IsWriting}
use Rattle.btr_restore.proofs.writing.put_pieces.Given as goal

abbrev pub invariant-loop-after : goal.invariant-loop-after
invariant-loop-after g l =
    IsReading (g.R.Rack.seen l.rack) l.vol.store l.file
    × SameLoans (without_file l.initial.vol.store l.initial.file) (without_file l.vol.store l.file)
    × ((g.T.TreeSink.sink l.tree).stage ≡ InFile)
    × ((g.T.TreeSink.sink l.tree).depth ≡ (g.T.TreeSink.sink l.initial.tree).depth)
    × ((whole : Program Step Bool) (x : World) (text : Option (List ℕ)) (calls : CallAccount)
    → IsWriting put whole x (world (g.R.Rack.seen l.initial.rack) l.initial.vol
    (outside (g.T.TreeSink.sink l.initial.tree) (g.T.TreeSink.account l.initial.tree) text calls)) false l.initial.file
    → IsWriting put whole x (world (g.R.Rack.seen l.rack) l.vol (outside (g.T.TreeSink.sink l.tree) (g.T.TreeSink.account l.tree) text calls)) l.plain l.file)

abbrev pub decreases-loop-after : goal.decreases-loop-after
decreases-loop-after g l = bytes_left l.file
