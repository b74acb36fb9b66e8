use Rattle.btr_rack.specs.Rack.{Seen}
use Rattle.btr_read.specs.Store.{SameLoans}
use Rattle.btr_volume.specs.Lookup.{Program}
use Rattle.btr_volume.specs.declared.volume.Volume.{Volume}
use Rattle.btr_files.specs.Content.{Piece}
use Rattle.btr_files.specs.Streaming.{bytes_left, IsReading, without_file}
use Rattle.btr_salvage.specs.Reading.{IsPassing}
use Rattle.btr_salvage.proofs.reading.pass_pieces.Given as goal

abbrev pub invariant-loop : goal.invariant-loop
invariant-loop g l =
    IsReading (g.R.Rack.seen l.rack) l.vol.store l.file
    × SameLoans (without_file l.initial.vol.store l.initial.file) (without_file l.vol.store l.file)
    × ((whole : Program Piece (Unit {0})) (start : Seen) (began : Volume)
    → IsPassing whole start began (g.R.Rack.seen l.initial.rack) l.initial.vol l.initial.file
    → IsPassing whole start began (g.R.Rack.seen l.rack) l.vol l.file)

abbrev pub decreases-loop : goal.decreases-loop
decreases-loop g l = bytes_left l.file
