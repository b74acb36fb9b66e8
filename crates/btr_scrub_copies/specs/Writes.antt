-- Writes to the images, and what is left where one of them fails.
use Rattle.std.specs.Prelude.{◌≡◌, ◌⊎◌, ℕ, ◌≤◌, Bool, true, false, List, [], ◌∷◌, ◌++◌, length, map, fold, slice_index_or, All, Option, Some, None}
use Rattle.std.specs.Prelude.{IfSome, IsSomeAnd, Result, Ok, Err, if◌then◌else◌}
use Rattle.btr_rack.specs.Rack.{NoneFailed, Seen, Slot, written}
use Rattle.btr_rack.specs.declared.place.Place.{Place as Range}
use Rattle.btr_read.specs.Cause.{ReadFailed}
use Rattle.btr_scrub_copies.specs.declared.mended.MendFault.{MendFault}
use Rattle.btr_scrub_copies.specs.declared.mended.MendFault.TheVariants.{Image, Memory}

-- the bytes of all images
abbrev pub Images : Type 0
Images = List (List ℕ)

-- x is one of a list
abbrev pub In : {X : Type 0} → X → List X → Type 0
In x [] = ⊥
In x (y ∷ ys) = (y ≡ x) ⊎ In x ys

-- each of a list is one of another
abbrev pub AreAmong : {X : Type 0} → List X → List X → Type 0
AreAmong {X = X} xs ys = (x : X) → In x xs → In x ys

-- a write: where, and which bytes
pub record Write : Type 0 where
  pub range : Range
  pub bytes : List ℕ

-- the ranges of writes
abbrev pub ranges_of : List Write → List Range
ranges_of writes = map (λ (write : Write). write.range) writes

-- one write
abbrev pub write_on : Images → Write → Images
write_on images write = written images write.range.slot write.range.off write.bytes

-- writes where it is to be written, and none where it is only read
abbrev pub writes_if : Bool → List Write → List Write
writes_if write writes = if write then writes else []

-- what a write that failed leaves: some bytes in its own range
abbrev pub IsTorn : List Write → Images → Images → Type 0
IsTorn [] old new = ⊥
IsTorn (write ∷ behind) old new = (some : List ℕ) × (length some ≡ length write.bytes) × (new ≡ written old write.range.slot write.range.off some)

-- writes were stopped at one of them: those before it are done, it perhaps in part, and those behind it not at all
pub record IsStopped (writes : List Write) (old new : Images) : Type 0 where
  pub before : List Write
  pub behind : List Write
  pub place : writes ≡ before ++ behind
  pub stands : (new ≡ fold write_on old before) ⊎ IsTorn behind (fold write_on old before) new

-- what writes leave of the images, where they are told: all of them are done at Ok, and else they were stopped at one
abbrev pub LeaveImages : {A E : Type 0} → (Images → List Write) → Option Images → Option Images → Result A E → Type 0
LeaveImages writes None left result = left ≡ None
LeaveImages writes (Some images) left (Ok a) = left ≡ Some (fold write_on images (writes images))
LeaveImages writes (Some images) left (Err e) = IsSomeAnd left (IsStopped (writes images) images)

-- each image was opened for writing
abbrev pub AreWritable : List Slot → Type 0
AreWritable slots = All (λ (slot : Slot). slot.write ≡ true) slots

-- a slot is marked
abbrev pub IsMarked : List Bool → ℕ → Type 0
IsMarked marks slot = slice_index_or marks slot false ≡ true

-- the slots of ranges were marked, and no mark was taken away
pub record Marks (ranges : List Range) (old new : List Bool) : Type 0 where
  pub added : All (λ (range : Range). IsMarked new range.slot) ranges
  pub kept : (slot : ℕ) → IsMarked old slot → IsMarked new slot

-- Images were read, and ranges of them written, which wait for a sync: the slots and the shelf are as before. No
-- opening failed, and the count of faults never falls.
pub record OnlyWrites (ranges : List Range) (old new : Seen) : Type 0 where
  pub same : new ≡ record old { held = new.held; unsynced = old.unsynced ++ ranges; account = new.account }
  pub later : old.account.faults ≤ new.account.faults
  pub same_shut : new.account.shut ≡ old.account.shut

-- a read or a write on this slot failed, at a place of which P holds; it doesn't come from a rack that is sure
pub record FailsAt (P : Range → Type 0) (slot : ℕ) (old new : Seen) : Type 0 where
  pub place : Range
  pub failed : ReadFailed place old new
  pub on_slot : place.slot ≡ slot
  pub lies : P place

-- the account is as before, but where an image failed
abbrev pub AccountsMend : {A : Type 0} → (Range → Type 0) → Seen → Seen → Result A MendFault → Type 0
AccountsMend P old new (Ok a) = NoneFailed old.account new.account
AccountsMend P old new (Err (Image slot)) = FailsAt P slot old new
AccountsMend P old new (Err Memory) = NoneFailed old.account new.account

-- Images were read and written: exactly the writes that follow from what they held, or those up to one that failed.
-- Ranges of these writes, at places of which P holds, wait for a sync, and are marked by their slots.
pub record DoesWrites {A : Type 0} (P : Range → Type 0) (writes : Images → List Write) (marks marks' : List Bool) (old new : Seen)
    (result : Result A MendFault) : Type 0 where
  pub ranges : List Range
  pub only : OnlyWrites ranges old new
  pub own : IfSome old.held (λ images. AreAmong ranges (ranges_of (writes images)))
  pub lie : (range : Range) → In range ranges → P range
  pub marked : Marks ranges marks marks'
  pub held : LeaveImages writes old.held new.held result
  pub account : AccountsMend P old new result
