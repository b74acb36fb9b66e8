-- What a lookup in a volume did and answered, in one word.
use Rattle.std.specs.Prelude.{Result, IfOk}
use Rattle.btr_rack.specs.Rack.{Seen, OnlyReads}
use Rattle.btr_walk.specs.Reading.{HasCause}
use Rattle.btr_walk.specs.declared.fault.TreeFault.{TreeFault}
use Rattle.btr_volume.specs.Looking.{Looks, SameVolume}
use Rattle.btr_volume.specs.Lookup.{Lookup}
use Rattle.btr_volume.specs.Readable.{CanRead}
use Rattle.btr_volume.specs.declared.volume.Volume.{Volume}
use Rattle.btr_files.specs.Listing.{named_row}
use Rattle.btr_listing.specs.declared.decision.Decision.{Decision}
use Rattle.btr_listing.specs.declared.entry.Entry.{Entry}
use Rattle.btr_listing.specs.declared.rules.Rules.{Rules}
use Rattle.btr_listing.specs.Deciding.{Fits, Met}

-- A lookup only read, its volume is as before and can be read again, a fault has its cause,
-- and what was answered follows its program.
pub record Looked
    {A : Type 0} (p : Lookup A) (old : Seen) (vol : Volume) (new : Seen) (vol' : Volume) (answer : Result A TreeFault) : Type 0 where
  pub reads : OnlyReads old new
  pub volume : SameVolume vol vol'
  pub ready : CanRead 4 new vol'
  pub cause : HasCause vol.store.layout old new answer
  pub content : Looks vol.store.layout old new p answer

-- an entry as the code has it
abbrev pub met_by : Entry → Met
met_by entry = record {
  tree = entry.tree;
  dirid = entry.dirid;
  deep = entry.deep;
  path = entry.path.now;
  entry = named_row entry.row entry.name.now;
}

-- a decision fits its entry, if there is one
abbrev pub FitsEntry : Rules → Met → Result Decision TreeFault → Type 0
FitsEntry rules met result = IfOk result (Fits rules met)

-- a decision fits its entry, if there is one, whatever the rules are
abbrev pub FitsAll : Met → Result Decision TreeFault → Type 0
FitsAll met result = (rules : Rules) → FitsEntry rules met result
