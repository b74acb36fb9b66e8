-- Syncs of the images that were written, and what waits for one.
use Rattle.std.specs.Prelude.{◌≡◌, ◌⊎◌, ℕ, ◌+◌, ◌<◌, ◌≤◌, Bool, true, false, List, [], ◌++◌, length, slice_index_or, Result, Ok, Err, if◌then◌else◌}
use Rattle.btr_rack.specs.Rack.{Seen, in_others, in_slot}
use Rattle.btr_rack.specs.declared.place.Place.{Place as Range}
use Rattle.btr_scrub_copies.specs.Writes.{AccountsMend, In, IsMarked}
use Rattle.btr_scrub_copies.specs.declared.mended.MendFault.{MendFault}
use Rattle.btr_scrub_copies.specs.declared.mended.MendFault.TheVariants.{Image, Memory}

-- a call that is a sync
abbrev pub IsSync : Range → Type 0
IsSync range = range.len ≡ 0

-- a sync, or a call at such a place
abbrev pub IsSyncOr : (Range → Type 0) → Range → Type 0
IsSyncOr P range = IsSync range ⊎ P range

-- all ranges are marked by their slots
abbrev pub AreMarked : List Bool → List Range → Type 0
AreMarked marks ranges = (range : Range) → In range ranges → IsMarked marks range.slot

-- a rack, whatever waits for a sync
abbrev pub plain : Seen → Seen
plain rack = record rack { unsynced = []; never_synced = [] }

-- What waits for good: nothing more at Ok, and where an image failed some ranges on
-- it, those that waited as a sync of it failed.
abbrev pub Strands : {A : Type 0} → List Range → List Range → Result A MendFault → Type 0
Strands old new (Ok a) = new ≡ old
Strands old new (Err (Image slot)) = (waiting : List Range) × (new ≡ old ++ in_slot slot waiting)
Strands old new (Err Memory) = new ≡ old

-- the images of the first n marks are synced: nothing waits for it any more there
pub record AreSynced (marks : List Bool) (n : ℕ) (ranges left : List Range) : Type 0 where
  pub among : (range : Range) → In range left → In range ranges × (range.slot < n → slice_index_or marks range.slot false ≡ false)

-- images were synced at most
pub record OnlySyncs (old new : Seen) : Type 0 where
  pub same : plain new ≡ record (plain old) { account = new.account }
  pub later : old.account.faults ≤ new.account.faults
  pub same_shut : new.account.shut ≡ old.account.shut

-- what waits behind that: where it failed, what waited on that image waits for good
abbrev pub WaitsBehind : Bool → ℕ → Seen → Seen → Result (Unit {0}) MendFault → Type 0
WaitsBehind marked slot old new (Ok _) = (new.unsynced ≡ (if marked then in_others slot old.unsynced else old.unsynced)) × (new.never_synced ≡ old.never_synced)
WaitsBehind marked slot old new (Err (Image failed)) =
    (failed ≡ slot) × (new.unsynced ≡ in_others slot old.unsynced) × (new.never_synced ≡ old.never_synced ++ in_slot slot old.unsynced)
WaitsBehind marked slot old new (Err Memory) = ⊥

-- an image was synced, if it was to be
pub record SyncsOne (marked : Bool) (slot : ℕ) (old new : Seen) (result : Result (Unit {0}) MendFault) : Type 0 where
  pub only : OnlySyncs old new
  pub account : AccountsMend IsSync old new result
  pub synced : WaitsBehind marked slot old new result

-- what waits behind the syncs of the marked images, up to one that failed: what waited on that one waits for good
abbrev pub WaitsBehindAll : List Bool → Seen → Seen → Result (Unit {0}) MendFault → Type 0
WaitsBehindAll marks old new (Ok _) = AreSynced marks (length marks) old.unsynced new.unsynced × (new.never_synced ≡ old.never_synced)
WaitsBehindAll marks old new (Err (Image slot)) =
    AreSynced marks (slot + 1) old.unsynced new.unsynced × (new.never_synced ≡ old.never_synced ++ in_slot slot old.unsynced)
WaitsBehindAll marks old new (Err Memory) = ⊥

-- the marks behind that: none is left, or those from the image on whose sync failed
abbrev pub Unmarks : List Bool → List Bool → Result (Unit {0}) MendFault → Type 0
Unmarks marks marks' (Ok _) = (slot : ℕ) → slice_index_or marks' slot false ≡ false
Unmarks marks marks' (Err (Image failed)) = (slot : ℕ) → failed ≤ slot → slice_index_or marks' slot false ≡ slice_index_or marks slot false
Unmarks marks marks' (Err Memory) = ⊥

-- the marked images were synced, up to one that failed
pub record SyncsMarked (marks marks' : List Bool) (old new : Seen) (result : Result (Unit {0}) MendFault) : Type 0 where
  pub only : OnlySyncs old new
  pub account : AccountsMend IsSync old new result
  pub synced : WaitsBehindAll marks old new result
  pub unmarks : Unmarks marks marks' result

-- the same where they are to be synced, and nothing where they aren't
abbrev pub SyncsIf : Bool → List Bool → List Bool → Seen → Seen → Result (Unit {0}) MendFault → Type 0
SyncsIf true marks marks' old new result = SyncsMarked marks marks' old new result
SyncsIf false marks marks' old new result = (result ≡ Ok tt) × (new ≡ old) × (marks' ≡ marks)
