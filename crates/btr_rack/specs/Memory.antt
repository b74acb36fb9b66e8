-- A rack in memory.
use Rattle.std.specs.Prelude.{◌≡◌, ◌≢◌, ℕ, ◌+◌, ◌-◌, ◌^◌, ◌≤◌, ◌<◌, min, max, Bool, true, false, ◌&&◌, ◌||◌, ◌==◌, nat_lt, if◌then◌else◌, List, []}
use Rattle.std.specs.Prelude.{◌∷◌, ◌++◌, length, map, take, drop, replicate, Option, Some, None, IfSome, Result, Ok, Err, ⊤}
use Rattle.std.specs.Option.{option_map, option_and_then}
use Rattle.std.specs.List.{list_any, find}
use Rattle.std.specs.Str.{bytes_eq}
use Rattle.btr_rack.specs.declared.error.PokeError.{PokeError}
use Rattle.btr_rack.specs.declared.error.PokeError.TheVariants.{NoImage, Range, Memory}
use Rattle.btr_rack.specs.declared.error.RackError.{RackError}
use Rattle.btr_rack.specs.declared.error.RackError.TheVariants.{Failed, Memory as Exhausted}
use Rattle.btr_rack.specs.declared.place.Place.{Place}
use Rattle.btr_rack.specs.Rack.{Slot, Shelf, Account, Seen, slot_at, next_count, no_failure, pasted, written}
use Rattle.btr_rack.specs.Image.{MemoryImage, bytes_in, is_named, page_at}

-- a range of the image of a name
pub record NamedRange : Type 0 where
  pub name : List ℕ
  pub off : ℕ
  pub len : ℕ

-- What is to fail: the calls of these numbers, counted from 1, the writes of these numbers, and the reads
-- and writes that touch one of these ranges. `calls` and `writes` were made so far. A write that fails
-- fills its range with the byte `tear`, where there is one, and else changes nothing.
pub record Failures : Type 0 where
  pub calls : ℕ
  pub writes : ℕ
  pub failing_calls : List ℕ
  pub failing_writes : List ℕ
  pub failing_ranges : List NamedRange
  pub tear : Option ℕ

-- no call, write or range is to fail, and no write tears
abbrev pub nothing_fails : Failures
nothing_fails = record { calls = 0; writes = 0; failing_calls = []; failing_writes = []; failing_ranges = []; tear = None }

-- the counts after one more call
abbrev pub after_call : Failures → Failures
after_call f = record f { calls = next_count f.calls }

-- the counts after one more write
abbrev pub after_write : Failures → Failures
after_write f = record f { calls = next_count f.calls; writes = next_count f.writes }

-- one more call, by its number, is to fail
abbrev pub failing_call : ℕ → Failures → Failures
failing_call n f = record f { failing_calls = f.failing_calls ++ n ∷ [] }

-- one more write, by its number, is to fail
abbrev pub failing_write : ℕ → Failures → Failures
failing_write n f = record f { failing_writes = f.failing_writes ++ n ∷ [] }

-- one more range of an image is to fail
abbrev pub failing_range : List ℕ → ℕ → ℕ → Failures → Failures
failing_range name off len f = record f { failing_ranges = f.failing_ranges ++ record { name = name; off = off; len = len } ∷ [] }

-- a write that fails fills its range with this byte
abbrev pub tearing : ℕ → Failures → Failures
tearing byte f = record f { tear = Some byte }

-- the next call is to fail by its number
abbrev pub call_strikes : Failures → Bool
call_strikes f = list_any (λ n. n == next_count f.calls) f.failing_calls

-- the next write is to fail by its number
abbrev pub write_strikes : Failures → Bool
write_strikes f = call_strikes f || list_any (λ n. n == next_count f.writes) f.failing_writes

-- a byte of the image of this name lies in both ranges
abbrev pub touches : List ℕ → ℕ → ℕ → NamedRange → Bool
touches name off len range = bytes_eq range.name name && nat_lt (max range.off off) (min (range.off + range.len) (off + len))

-- A rack in memory: its images, of which the first `opened` are open, in the order of their opening, and
-- the others are on the shelf; what is to fail; the ranges that wait for a sync, and those that wait for
-- good; and the account of the failed calls.
pub record MemoryRack : Type 0 where
  pub images : List MemoryImage
  pub opened : ℕ
  pub failing : Failures
  pub unsynced : List Place
  pub never_synced : List Place
  pub account : Account

-- a rack with no images
abbrev pub empty_rack : MemoryRack
empty_rack = record { images = []; opened = 0; failing = nothing_fails; unsynced = []; never_synced = []; account = no_failure }

-- the rack with one more image on the shelf
abbrev pub with_image : MemoryImage → MemoryRack → MemoryRack
with_image image rack = record rack { images = rack.images ++ image ∷ [] }

-- the rack with these calls and ranges to fail
abbrev pub with_failing : Failures → MemoryRack → MemoryRack
with_failing failing rack = record rack { failing = failing }

-- the rack after a call that only changed its counts
abbrev pub with_counts : Failures → Account → MemoryRack → MemoryRack
with_counts failing account rack = record rack { failing = failing; account = account }

-- the bytes of the image of a name, open or not
abbrev pub named : MemoryRack → List ℕ → Option (List ℕ)
named rack name = option_map bytes_in (find (is_named name) rack.images)

-- the open images
abbrev pub open_images : MemoryRack → List MemoryImage
open_images rack = take rack.opened rack.images

-- the images that are on the shelf and not open
abbrev pub shelved_images : MemoryRack → List MemoryImage
shelved_images rack = drop rack.opened rack.images

-- the slots of the open images
abbrev pub slots_of : MemoryRack → List Slot
slots_of rack = map (λ image. image.slot) (open_images rack)

-- the bytes of the open images
abbrev pub held_of : MemoryRack → List (List ℕ)
held_of rack = map bytes_in (open_images rack)

-- the images that may be opened: no name is opened twice
abbrev pub shelf_of : MemoryRack → Shelf
shelf_of rack name =
    if list_any (is_named name) (open_images rack) then None else option_map bytes_in (find (is_named name) (shelved_images rack))

-- a list has no members
abbrev pub is_empty : {X : Type 0} → List X → Bool
is_empty [] = true
is_empty (_ ∷ _) = false

-- nothing is to fail
abbrev pub fails_nothing : Failures → Bool
fails_nothing f = is_empty f.failing_calls && is_empty f.failing_writes && is_empty f.failing_ranges

-- nothing is to fail, and the count of faults is below its type's last value
abbrev pub is_sure : MemoryRack → Bool
is_sure rack = fails_nothing rack.failing && nat_lt rack.account.faults (2 ^ 64 - 1)

-- what is seen of it
abbrev pub seen_of : MemoryRack → Seen
seen_of rack = record {
  slots = slots_of rack;
  held = Some (held_of rack);
  shelf = Some (shelf_of rack);
  unsynced = rack.unsynced;
  never_synced = rack.never_synced;
  sure = is_sure rack;
  account = rack.account;
}

-- a read or a write of this range of an open image is to fail
abbrev pub hits : MemoryRack → ℕ → ℕ → ℕ → Bool
hits rack slot off len = list_any (touches (slot_at (slots_of rack) slot).name off len) rack.failing.failing_ranges

-- a write of this range of an open image is to fail
abbrev pub write_fails : MemoryRack → ℕ → ℕ → ℕ → Bool
write_fails rack slot off len = write_strikes rack.failing || hits rack slot off len

-- the bytes of the image of a name were written over from `off` on, and nothing else changed
pub record Rewrites (name : List ℕ) (off : ℕ) (bytes : List ℕ) (old new : MemoryRack) : Type 0 where
  pub image : List ℕ
  pub stood : named old name ≡ Some image
  pub fits : off + length bytes ≤ length image
  pub written : named new name ≡ Some (pasted image off bytes)
  pub others : (other : List ℕ) → other ≢ name → named new other ≡ named old other
  pub slots : slots_of new ≡ slots_of old
  pub failing : new.failing ≡ old.failing
  pub unsynced : new.unsynced ≡ old.unsynced
  pub never_synced : new.never_synced ≡ old.never_synced
  pub account : new.account ≡ old.account

-- what `poke` does: where memory runs out, some bytes of the range were written
abbrev pub Pokes : {T : Type 0} → List ℕ → ℕ → List ℕ → MemoryRack → MemoryRack → Result T PokeError → Type 0
Pokes name off bytes old new (Ok _) = Rewrites name off bytes old new
Pokes name off bytes old new (Err NoImage) = (named old name ≡ None) × (new ≡ old)
Pokes name off bytes old new (Err Range) =
    (image : List ℕ) × (named old name ≡ Some image) × (length image < off + length bytes) × (new ≡ old)
Pokes name off bytes old new (Err Memory) = (some : List ℕ) × (length some ≡ length bytes) × Rewrites name off some old new

-- the image of a name on the shelf was shortened, and nothing else changed
pub record Shortens (name : List ℕ) (len : ℕ) (old new : MemoryRack) : Type 0 where
  pub image : List ℕ
  pub stood : shelf_of old name ≡ Some image
  pub fits : len ≤ length image
  pub cut : shelf_of new name ≡ Some (take len image)
  pub others : (other : List ℕ) → other ≢ name → shelf_of new other ≡ shelf_of old other
  pub opened : open_images new ≡ open_images old
  pub failing : new.failing ≡ old.failing
  pub unsynced : new.unsynced ≡ old.unsynced
  pub never_synced : new.never_synced ≡ old.never_synced
  pub account : new.account ≡ old.account

-- what `cut` does: it refuses a name that is not on the shelf, and an image that is shorter
abbrev pub Cuts : List ℕ → ℕ → MemoryRack → MemoryRack → Bool → Type 0
Cuts name len old new true = Shortens name len old new
Cuts name len old new false = IfSome (shelf_of old name) (λ image. length image < len) × (new ≡ old)

-- the page of a number of the image of a name
abbrev pub named_page : MemoryRack → List ℕ → ℕ → Option (List ℕ)
named_page rack name index = option_and_then (λ image. page_at image.pages index) (find (is_named name) rack.images)

-- what a write that is made to fail leaves of the open images: the tear in its range, or what stood there
abbrev pub Tears : {T : Type 0} → Option ℕ → ℕ → ℕ → ℕ → List (List ℕ) → List (List ℕ) → Result T RackError → Type 0
Tears tear slot off len old new (Ok _) = ⊤
Tears None slot off len old new (Err Failed) = new ≡ old
Tears (Some byte) slot off len old new (Err Failed) = new ≡ written old slot off (replicate len byte)
Tears tear slot off len old new (Err Exhausted) = ⊤

-- a write of this range that is made to fail leaves its tear in the open images of the rack
abbrev pub LeavesTear : {T : Type 0} → ℕ → ℕ → ℕ → MemoryRack → MemoryRack → Result T RackError → Type 0
LeavesTear slot off len old new result = Tears old.failing.tear slot off len (held_of old) (held_of new) result

-- one more call was counted, and only the account and what waits for a sync may have changed
abbrev pub OnlySyncs : MemoryRack → MemoryRack → Type 0
OnlySyncs old new = record new { unsynced = old.unsynced; never_synced = old.never_synced } ≡ with_counts (after_call old.failing) new.account old
