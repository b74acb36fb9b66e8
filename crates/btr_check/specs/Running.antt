-- What a call of a check has done, and how it answered.
use Rattle.std.specs.Prelude.{◌≡◌, ◌≤◌, Bool, true, false, Some, Result, Ok, Err, ⊤}
use Rattle.btr_rack.specs.Rack.{Seen, OnlyReads}
use Rattle.btr_read.specs.Layout.{Layout}
use Rattle.btr_read.specs.Serves.{Serves}
use Rattle.btr_read.specs.Store.{free_count}
use Rattle.btr_read.specs.declared.want.Want.{Want}
use Rattle.btr_walk.specs.Reading.{Map, Tells, UnreadBlock, unread_by}
use Rattle.btr_walk.specs.declared.fault.TreeFault.{TreeFault}
use Rattle.btr_walk.specs.declared.fault.TreeFault.TheVariants.{Unread}
use Rattle.btr_volume.specs.Looking.{SameVolume}
use Rattle.btr_volume.specs.declared.stop.Stop.{Stop}
use Rattle.btr_volume.specs.declared.stop.Stop.TheVariants.{Tree, Missing, Image, Sink, Out, Memory}
use Rattle.btr_volume.specs.declared.volume.Volume.{Volume}
use Rattle.btr_check.specs.Filesystem.{Filesystem}
use Rattle.btr_check.specs.Before.{refusal}

-- what is seen of a rack and a volume
pub record World : Type 0 where
  pub rack : Seen
  pub vol : Volume

-- what is seen of a rack and a volume, made of both
abbrev pub world : Seen → Volume → World
world rack vol = record { rack = rack; vol = vol }

-- a volume can be read: four slots are free
pub record CanCheck (x : World) : Type 0 where
  pub serves : Serves x.rack x.vol.store
  pub room : 4 ≤ free_count x.vol.store

-- the filesystem of a volume, by a block map
abbrev pub filesystem : Volume → Map → Filesystem
filesystem vol B = record { sup = vol.sup; chunks = vol.store.layout.chunks; blocks = B }

-- P holds of the block that a fault of a tree says could not be read, if it says so
abbrev pub FaultUnread : (UnreadBlock → Type 0) → TreeFault → Type 0
FaultUnread P (Unread addr slot) = P (record { addr = addr; slot = slot })
FaultUnread P fault = ⊤

-- P holds of the block that a stop says could not be read, if it says so
abbrev pub StopUnread : (UnreadBlock → Type 0) → Stop → Type 0
StopUnread P (Tree f) = FaultUnread P f
StopUnread P stop = ⊤

-- P holds of the block that an answer says could not be read, if it says so
abbrev pub IfUnread : {A : Type 0} → (UnreadBlock → Type 0) → Result A Stop → Type 0
IfUnread P (Ok a) = ⊤
IfUnread P (Err stop) = StopUnread P stop

-- some want of these is the one that could not be read, with its whole cause
abbrev pub IsUnreadOf : Layout → Seen → Seen → (Want → Type 0) → UnreadBlock → Type 0
IsUnreadOf layout old new W u = (want : Want) × W want × unread_by layout old new u want

-- some want, whichever it is, is the one that could not be read, with its whole cause
abbrev pub IsAnyUnread : Layout → Seen → Seen → UnreadBlock → Type 0
IsAnyUnread layout old new u = IsUnreadOf layout old new (λ want. ⊤) u

-- a block could not be read, or there is no memory: such a stop may come at any place
abbrev pub is_unread : TreeFault → Bool
is_unread (Unread addr slot) = true
is_unread fault = false

-- a stop says that a block could not be read, or that there is no memory
abbrev pub is_outside : Stop → Bool
is_outside (Tree f) = is_unread f
is_outside Out = true
is_outside Memory = true
is_outside stop = false

-- what is answered of a filesystem: a value, or its refusal
abbrev pub Answers : {A : Type 0} → (A → Type 0) → Filesystem → Result A Stop → Type 0
Answers P fs (Ok a) = P a
Answers P fs (Err stop) = is_outside stop ≡ false → refusal fs ≡ Some stop

-- a call stops for no other reason than that a block could not be read, or that there is no memory
abbrev pub StopsOutside : {A : Type 0} → Result A Stop → Type 0
StopsOutside (Ok a) = ⊤
StopsOutside (Err stop) = is_outside stop ≡ true

-- a stop of a call that only reads blocks
abbrev pub OfReading : Stop → Type 0
OfReading (Missing id) = ⊥
OfReading (Image slot) = ⊥
OfReading Sink = ⊥
OfReading Out = ⊥
OfReading stop = ⊤

-- an answer is none of the stops of a call that only reads blocks
abbrev pub StopsReading : {A : Type 0} → Result A Stop → Type 0
StopsReading (Ok a) = ⊤
StopsReading (Err stop) = OfReading stop

-- A call that reads a volume: it only read, the volume can be read on, its fault has its cause, and so far as the
-- calls were steady P holds of the filesystem, and a block that could not be read is a want of W.
pub record Ran {A : Type 0} (W : Filesystem → Want → Type 0) (P : Filesystem → Type 0) (x y : World)
    (answer : Result A Stop) : Type 0 where
  pub reads : OnlyReads x.rack y.rack
  pub volume : SameVolume x.vol y.vol
  pub ready : CanCheck y
  pub cause : IfUnread (IsAnyUnread x.vol.store.layout x.rack y.rack) answer
  pub quiet : StopsReading answer
  pub told : Tells x.vol.store.layout x.rack y.rack (λ B. P (filesystem x.vol B))
  pub named : Tells x.vol.store.layout x.rack y.rack
      (λ B. IfUnread (IsUnreadOf x.vol.store.layout x.rack y.rack (W (filesystem x.vol B))) answer)
