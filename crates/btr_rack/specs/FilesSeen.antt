-- What is seen of a rack of files, and what was asked of its files.
use Rattle.std.specs.Prelude.{ℕ, List}
use Rattle.btr_rack.specs.declared.file.FileRack.{FileRack}
use Rattle.btr_rack.specs.Rack.{Seen}
use Rattle.btr_rack.specs.History.{Event}
use Rattle.btr_rack.specs.Opened.{history_in, seen_files}

-- what is seen of it
abbrev pub seen_of : {R File : Type 0} → FileRack R File → Seen
seen_of rack = seen_files rack.files.items rack.unsynced rack.never_synced rack.ledger

-- what was asked of the file in a slot
abbrev pub history_of : {R File : Type 0} → FileRack R File → ℕ → List Event
history_of rack slot = history_in rack.files.items slot
