-- Opening the named images.
use Rattle.std.specs.Prelude.{◌≡◌, ℕ, ◌<◌, ◌≤◌, Bool, List, length, map, take, slice_get, Option}
use Rattle.std.specs.Prelude.{Some, IfSome, IsSomeAnd, Result, Ok, Err}
use Rattle.btr_rack.specs.Rack.{Slot, Seen, Account, Shelf, Rose, NoneFailed, next_count, range_in}
use Rattle.btr_rack.specs.Rack.{opening_of}
use Rattle.btr_run.specs.Images.{taken, most_images}
use Rattle.btr_run.specs.Words.{Words}
use Rattle.btr_volume.specs.declared.which.Which.TheVariants.{Images}
use Rattle.btr_run.specs.declared.answer.Answer.{Answer}
use Rattle.btr_run.specs.declared.answer.Answer.TheVariants.{Limit, ImageFault, Memory}
use Rattle.btr_run.specs.declared.opening.OpeningFault.{OpeningFault}
use Rattle.btr_run.specs.declared.opening.OpeningFault.TheVariants.{TooMany, Failed}
use Rattle.btr_run.specs.declared.opening.OpeningFault.TheVariants.{Memory as memory_fault}

-- the answer where the images aren't open
abbrev pub opening_answer : OpeningFault → Answer
opening_answer (TooMany count) = Limit Images count
opening_answer (Failed slot) = ImageFault slot
opening_answer memory_fault = Memory

-- the open images are the named ones, where the shelf is told
abbrev pub OpensAll : Words → Option Shelf → Option (List (List ℕ)) → Result Unit OpeningFault
    → Type 0
OpensAll names shelf held (Ok _) =
    IfSome shelf (λ at. IsSomeAnd held (λ images. taken names at ≡ Some images))
OpensAll names shelf held (Err _) = Unit {0}

-- there are too many images exactly where this is said
abbrev pub HasTooMany : Words → Result Unit OpeningFault → Type 0
HasTooMany names (Ok _) = length names ≤ most_images
HasTooMany names (Err (TooMany count)) = (count ≡ length names) × (most_images < count)
HasTooMany names (Err (Failed slot)) = length names ≤ most_images
HasTooMany names (Err memory_fault) = length names ≤ most_images

-- an image couldn't be opened: this was the last failed call, with the images before it in the
-- slots before
pub record OpeningFailed (write : Bool) (names : Words) (slots : List Slot) (old new : Account)
    (slot : ℕ) : Type 0 where
  pub name : List ℕ
  pub named : slice_get names slot ≡ Some name
  pub opening : new.opening ≡ Some (opening_of name write)
  pub before : map (λ s. s.name) slots ≡ take slot names
  pub last : new.last ≡ range_in slot 0 0
  pub faults : Rose old.faults new.faults
  pub fresh : 1 ≤ new.fresh
  pub shut : new.shut ≡ next_count old.shut

-- A rack whose named images were opened, before any of them was read: they hold what the shelf
-- held, where it is told. No call failed, and what waited for a sync waits.
pub record IsOpened (names : Words) (old new : Seen) : Type 0 where
  pub images : OpensAll names old.shelf new.held (Ok tt)
  pub account : NoneFailed old.account new.account
  pub sure : new.sure ≡ old.sure
  pub unsynced : new.unsynced ≡ old.unsynced
  pub never_synced : new.never_synced ≡ old.never_synced

-- what opening the named images did to the account
abbrev pub OpeningCause : Bool → Words → Seen → Seen → Result Unit OpeningFault → Type 0
OpeningCause write names old new (Ok _) = NoneFailed old.account new.account
OpeningCause write names old new (Err (TooMany count)) = NoneFailed old.account new.account
OpeningCause write names old new (Err (Failed slot)) =
    OpeningFailed write names new.slots old.account new.account slot
OpeningCause write names old new (Err memory_fault) = NoneFailed old.account new.account
