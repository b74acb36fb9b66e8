-- Writes in two turns, the second of which begins only when what the first wrote is stored.
use Rattle.std.specs.Prelude.{◌⊎◌, Bool, List, [], ◌++◌, fold, IfSome, IsSomeAnd, Result}
use Rattle.btr_rack.specs.Rack.{Seen}
use Rattle.btr_rack.specs.declared.place.Place.{Place as Range}
use Rattle.btr_scrub_copies.specs.Syncing.{AreMarked, IsSyncOr, Strands, plain}
use Rattle.btr_scrub_copies.specs.Writes.{AreAmong, DoesWrites, Images, In, IsStopped, Write, ranges_of, write_on}
use Rattle.btr_scrub_copies.specs.declared.mended.MendFault.{MendFault}

-- all that waits for a sync, also what waits for good
abbrev pub waiting : Seen → List Range
waiting rack = rack.unsynced ++ rack.never_synced

-- what waits behind a call waited before, or is at a place of which P holds
abbrev pub WaitsAt : (Range → Type 0) → Seen → Seen → Type 0
WaitsAt P old new = (range : Range) → In range (waiting new) → In range (waiting old) ⊎ P range

-- Writes in two turns, as they were stopped: in the first turn, and at most ranges of that wait; or the first is done
-- and stored, they were stopped in the second, and at most ranges of that wait.
abbrev pub IsInTurn : List Write → List Write → Images → Images → List Range → Type 0
IsInTurn first second images left own =
    (IsStopped first images left × AreAmong own (ranges_of first))
    ⊎ (IsStopped second (fold write_on images first) left × AreAmong own (ranges_of second))

-- what waits behind a call waited before, or is its own, in turn
pub record WaitsInTurn (first second : List Write) (images : Images) (old new : Seen) : Type 0 where
  pub own : List Range
  pub among : AreAmong (waiting new) (waiting old ++ own)
  pub turn : IsSomeAnd new.held (λ left. IsInTurn first second images left own)

-- Images were written in two turns, and the marked ones synced between them where there is something to write in both:
-- exactly those writes, or those up to a call that failed. Where all that waited was marked, it is.
pub record TakesTurns {A : Type 0} (P : Range → Type 0) (first second : List Write) (marks marks' : List Bool) (old new : Seen)
    (result : Result A MendFault) : Type 0 where
  pub does : DoesWrites (IsSyncOr P) (λ images. first ++ second) [] [] (plain old) (plain new) result
  pub waits : IfSome old.held (λ images. WaitsInTurn first second images old new)
  pub lie : WaitsAt P old new
  pub marked : AreMarked marks old.unsynced → AreMarked marks' new.unsynced
  pub stranded : Strands old.never_synced new.never_synced result
