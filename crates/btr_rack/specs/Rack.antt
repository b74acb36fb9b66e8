-- What the calls of a rack of images do.
use Rattle.std.specs.Prelude.{◌≡◌, ◌≢◌, ℕ, ◌+◌, ◌-◌, ◌^◌, ◌≤◌, ◌<◌, ◌==◌, min, Bool, true, false, not, List, [], ◌∷◌, ◌++◌, length, map, filter, take}
use Rattle.std.specs.Prelude.{drop, All, slice_index_or, slice_range, slice_set, Option, Some, None, IfSome, Result, Ok, Err, ⊤}
use Rattle.btr_rack.specs.declared.error.RackError.{RackError}
use Rattle.btr_rack.specs.declared.error.RackError.TheVariants.{Failed, Memory}
use Rattle.btr_rack.specs.declared.place.Place.{Place}

-- an opened image: its name, its length in bytes, and whether it was opened for writing
pub record Slot : Type 0 where
  pub name : List ℕ
  pub len : ℕ
  pub write : Bool

-- what stands past the last slot
abbrev pub no_slot : Slot
no_slot = record { name = []; len = 0; write = false }

-- a slot of a rack, or an empty one past the last
abbrev pub slot_at : List Slot → ℕ → Slot
slot_at slots slot = slice_index_or slots slot no_slot

-- the length of the image in a slot
abbrev pub len_of : List Slot → ℕ → ℕ
len_of slots slot = (slot_at slots slot).len

-- the image in a slot was opened for writing
abbrev pub opened_to_write : List Slot → ℕ → Bool
opened_to_write slots slot = (slot_at slots slot).write

-- the bytes of the image in a slot
abbrev pub image_of : List (List ℕ) → ℕ → List ℕ
image_of images slot = slice_index_or images slot []

-- some bytes of the image in a slot
abbrev pub bytes_of : List (List ℕ) → ℕ → ℕ → ℕ → List ℕ
bytes_of images slot off len = slice_range (image_of images slot) off (off + len)

-- where the bytes of the images are told, these are those of the image in a slot
abbrev pub AreBytesOf : Option (List (List ℕ)) → ℕ → ℕ → ℕ → List ℕ → Type 0
AreBytesOf held slot off len bytes = IfSome held (λ images. bytes ≡ bytes_of images slot off len)

-- an image in which bytes were written over those from `off` on
abbrev pub pasted : List ℕ → ℕ → List ℕ → List ℕ
pasted image off bytes = take off image ++ bytes ++ drop (off + length bytes) image

-- the images, of which the one in a slot was written over
abbrev pub written : List (List ℕ) → ℕ → ℕ → List ℕ → List (List ℕ)
written images slot off bytes = slice_set images slot (pasted (image_of images slot) off bytes)

-- the place of a call: the range of `len` bytes from `off` on in a slot
abbrev pub range_in : ℕ → ℕ → ℕ → Place
range_in slot off len = record { slot = slot; off = off; len = len }

-- an opening: the name, and whether it was for writing
pub record Opening : Type 0 where
  pub name : List ℕ
  pub write : Bool

-- an opening of an image by its name, for writing or only for reading
abbrev pub opening_of : List ℕ → Bool → Opening
opening_of name write = record { name = name; write = write }

-- The account of the failed calls. `faults` and `shut` never fall; `shut` counts openings. `fresh` and
-- `missed` are the number and the places of the failed calls since the last `forget`. `last` is the
-- place of the last failed call, and `opening` what it was to open, if it was an opening.
pub record Account : Type 0 where
  pub faults : ℕ
  pub fresh : ℕ
  pub missed : List Place
  pub last : Place
  pub opening : Option Opening
  pub shut : ℕ

-- the account as it begins
abbrev pub no_failure : Account
no_failure = record { faults = 0; fresh = 0; missed = []; last = range_in 0 0 0; opening = None; shut = 0 }

-- a count with one more call: it stands still at its type's last value
abbrev pub next_count : ℕ → ℕ
next_count count = min (count + 1) (2 ^ 64 - 1)

-- a count rose: it is greater than it was, or stands at its type's last value
abbrev pub Rose : ℕ → ℕ → Type 0
Rose before now = (before ≤ now) × (next_count before ≤ now)

-- a count did not rise: it is not greater than it was, and does not stand at its type's last value
abbrev pub Steady : ℕ → ℕ → Type 0
Steady before now = (now ≤ before) × (now < 2 ^ 64 - 1)

-- no call failed: the account is as before
pub record NoneFailed (old new : Account) : Type 0 where
  pub faults : new.faults ≡ old.faults
  pub fresh : new.fresh ≡ old.fresh
  pub missed : new.missed ≡ old.missed
  pub last : new.last ≡ old.last
  pub opening : new.opening ≡ old.opening
  pub shut : new.shut ≡ old.shut

-- a call at this place failed
pub record OneFailed (place : Place) (old new : Account) : Type 0 where
  pub faults : Rose old.faults new.faults
  pub fresh : new.fresh ≡ next_count old.fresh
  pub missed : new.missed ≡ old.missed ++ place ∷ []
  pub last : new.last ≡ place

-- what a call at this place that is no opening does to the account
abbrev pub Accounts : {T : Type 0} → Place → Account → Account → Result T RackError → Type 0
Accounts place old new (Ok _) = NoneFailed old new
Accounts place old new (Err Failed) = OneFailed place old new × (new.opening ≡ None) × (new.shut ≡ old.shut)
Accounts place old new (Err Memory) = NoneFailed old new

-- what an opening at this place does to the account
abbrev pub AccountsOpening : {T : Type 0} → Opening → Place → Account → Account → Result T RackError → Type 0
AccountsOpening opening place old new (Ok _) = NoneFailed old new
AccountsOpening opening place old new (Err Failed) =
    OneFailed place old new × (new.opening ≡ Some opening) × (new.shut ≡ next_count old.shut)
AccountsOpening opening place old new (Err Memory) = NoneFailed old new

-- an opening appends its image at Ok, and does nothing otherwise
abbrev pub Opens : List ℕ → Bool → List Slot → List Slot → Result ℕ RackError → Type 0
Opens name write old new (Ok slot) =
    (slot ≡ length old) × ((len : ℕ) × (len < 2 ^ 63) × (new ≡ old ++ record { name = name; len = len; write = write } ∷ []))
Opens name write old new (Err _) = new ≡ old

-- the images that may be opened, by name
abbrev pub Shelf : Type 0
Shelf = List ℕ → Option (List ℕ)

-- the named image leaves the shelf, and is the last of the opened ones
pub record TakesImage (name : List ℕ) (old new : Shelf) (images images' : List (List ℕ)) : Type 0 where
  pub bytes : List ℕ
  pub stood : old name ≡ Some bytes
  pub opened : images' ≡ images ++ bytes ∷ []
  pub gone : new name ≡ None
  pub others : (other : List ℕ) → other ≢ name → new other ≡ old other

-- what an opening does to the shelf and to the opened images: a rack tells both or neither
abbrev pub ShelfTakes : List ℕ → Option Shelf → Option Shelf → Option (List (List ℕ)) → Option (List (List ℕ)) → Result ℕ RackError → Type 0
ShelfTakes name (Some old) (Some new) (Some images) (Some images') (Ok _) = TakesImage name old new images images'
ShelfTakes name shelf shelf' images images' (Ok _) = (shelf ≡ None) × (shelf' ≡ None) × (images ≡ None) × (images' ≡ None)
ShelfTakes name shelf shelf' images images' (Err _) = (shelf' ≡ shelf) × (images' ≡ images)

-- what a write does to the opened images, where they are told: the range holds
-- the bytes at Ok, and some bytes otherwise
abbrev pub Writes : {T : Type 0} → ℕ → ℕ → List ℕ → Option (List (List ℕ)) → Option (List (List ℕ)) → Result T RackError → Type 0
Writes slot off bytes None new result = new ≡ None
Writes slot off bytes (Some images) new (Ok _) = new ≡ Some (written images slot off bytes)
Writes slot off bytes (Some images) new (Err _) =
    (some : List ℕ) × (length some ≡ length bytes) × (new ≡ Some (written images slot off some))

-- What is seen of a rack: the opened images, in the order of their opening; their bytes, and the images that
-- may be opened, where it tells them; the ranges that were written since the last sync of their image, and
-- those that waited when a sync of their image failed, which wait for good; whether it is sure, so that no
-- call is to fail; and the calls that failed.
pub record Seen : Type 0 where
  pub slots : List Slot
  pub held : Option (List (List ℕ))
  pub shelf : Option Shelf
  pub unsynced : List Place
  pub never_synced : List Place
  pub sure : Bool
  pub account : Account

-- what an opening does to what is seen of the shelf and of the opened images
abbrev pub TakesFromShelf : List ℕ → Seen → Seen → Result ℕ RackError → Type 0
TakesFromShelf name old new result = ShelfTakes name old.shelf new.shelf old.held new.held result

-- what a call at this place that is no opening does to what is seen of the account
abbrev pub AccountsCall : {T : Type 0} → Place → Seen → Seen → Result T RackError → Type 0
AccountsCall place old new result = Accounts place old.account new.account result

-- what an opening as the next slot does to what is seen of the account
abbrev pub AccountsNextOpening : {T : Type 0} → List ℕ → Bool → Seen → Seen → Result T RackError → Type 0
AccountsNextOpening name write old new result =
    AccountsOpening (opening_of name write) (range_in (length old.slots) 0 0) old.account new.account result

-- only the account may have changed
abbrev pub OnlyCounts : Seen → Seen → Type 0
OnlyCounts old new = new ≡ record old { account = new.account }

-- The images were only read: they and all else but the account are as before. No opening
-- failed, and the count of faults never falls.
pub record OnlyReads (old new : Seen) : Type 0 where
  pub same : OnlyCounts old new
  pub later : old.account.faults ≤ new.account.faults
  pub same_shut : new.account.shut ≡ old.account.shut

-- the account without the number and the places of the failed calls
abbrev pub forgotten : Account → Account
forgotten account = record account { fresh = 0; missed = [] }

-- A sure rack opens what stands on its shelf, and stays sure. The only fault that it
-- answers is that of an image that isn't there.
abbrev pub OpensSurely : {T : Type 0} → List ℕ → Seen → Seen → Result T RackError → Type 0
OpensSurely name old new (Ok _) = new.sure ≡ old.sure
OpensSurely name old new (Err Failed) = old.sure ≡ true → IfSome old.shelf (λ shelf. shelf name ≡ None)
OpensSurely name old new (Err Memory) = new.sure ≡ old.sure

-- a sure rack answers no fault
abbrev pub FailsUnsure : {T : Type 0} → Bool → Result T RackError → Type 0
FailsUnsure sure (Ok _) = ⊤
FailsUnsure sure (Err Failed) = sure ≡ false
FailsUnsure sure (Err Memory) = ⊤

-- what a write does beside the image's bytes: its range waits for a sync, whatever became of it
abbrev pub Unsyncs : Place → Seen → Seen → Type 0
Unsyncs range old new = new ≡ record old { held = new.held; unsynced = old.unsynced ++ range ∷ []; account = new.account }

-- the ranges that lie in a slot
abbrev pub in_slot : ℕ → List Place → List Place
in_slot slot ranges = filter (λ range. range.slot == slot) ranges

-- the ranges that lie in other slots
abbrev pub in_others : ℕ → List Place → List Place
in_others slot ranges = filter (λ range. not (range.slot == slot)) ranges

-- What a sync does: at Ok nothing of the slot waits any more, but what waits for good. Where it failed, the system may
-- have forgotten what waited: it waits for good.
abbrev pub Syncs : {T : Type 0} → ℕ → Seen → Seen → Result T RackError → Type 0
Syncs slot old new (Ok _) = new ≡ record old { unsynced = in_others slot old.unsynced; account = new.account }
Syncs slot old new (Err Failed) =
    new ≡ record old {
      unsynced = in_others slot old.unsynced;
      never_synced = old.never_synced ++ in_slot slot old.unsynced;
      account = new.account;
    }
Syncs slot old new (Err Memory) = OnlyCounts old new

-- What holds of every rack that can be seen: the opened images have the lengths of their slots, what is told are bytes,
-- and the count of faults of a sure rack is below its type's last value.
pub record IsRack (seen : Seen) : Type 0 where
  pub sized : IfSome seen.held (λ images. map length images ≡ map (λ slot. slot.len) seen.slots)
  pub bytes : IfSome seen.held (λ images. All (All (λ b. b < 256)) images)
  pub count_left : seen.sure ≡ true → seen.account.faults < 2 ^ 64 - 1

-- a call fails exactly where the test says so; want of memory comes freely
abbrev pub FailsWhere : {T : Type 0} → Bool → Result T RackError → Type 0
FailsWhere test (Ok _) = test ≡ false
FailsWhere test (Err Failed) = test ≡ true
FailsWhere test (Err Memory) = ⊤
