use Rattle.std.proofs.Common.{◌≡◌, ℕ, List, Option}
use Rattle.btr_rack.specs.Out.{CallAccount}
use Rattle.btr_rack.specs.Sink.{InFile}
use Rattle.btr_read.specs.Store.{SameLoans}
use Rattle.btr_volume.specs.Lookup.{Program}
use Rattle.btr_files.specs.Streaming.{bytes_left, IsReading, without_file}
use Rattle.btr_restore.specs.Running.{World, outside, world}
use Rattle.btr_listing.specs.Step.{Step}
use Rattle.btr_send.specs.declared.progress.SentPart.{SentPart}
use Rattle.btr_send.specs.Sending.{at_front, put}
use Rattle.btr_restore.specs.Writing.{IsWriting}
use Rattle.btr_send.proofs.writing.put_pieces.Given as goal

abbrev pub invariant-loop-after : goal.invariant-loop-after
invariant-loop-after g l =
    IsReading (g.R.Rack.seen l.rack) l.vol.store l.file
    × SameLoans (without_file l.initial.vol.store l.initial.file) (without_file l.vol.store l.file)
    × ((g.T.TreeSink.sink l.tree).stage ≡ InFile)
    × ((whole : Program Step SentPart) (x : World) (text : Option (List ℕ)) (calls : CallAccount)
    → IsWriting (put l.path) whole x (world (g.R.Rack.seen l.initial.rack) l.initial.vol (outside (g.T.TreeSink.sink l.initial.tree)
    (g.T.TreeSink.account l.initial.tree) text calls)) at_front l.initial.file
    → IsWriting (put l.path) whole x (world (g.R.Rack.seen l.rack) l.vol (outside (g.T.TreeSink.sink l.tree)
    (g.T.TreeSink.account l.tree) text calls)) l.now l.file)

abbrev pub decreases-loop-after : goal.decreases-loop-after
decreases-loop-after g l = bytes_left l.file
