-- An image that is made wrong.
use Rattle.std.specs.Prelude.{◌≡◌, ◌≢◌, ℕ, ◌+◌, ◌-◌, ◌*◌, ◌/◌, ◌^◌, ◌<◌, ◌≤◌, Bool, true, false, not, ◌&&◌, ◌==◌, nat_lt, nat_le, if◌then◌else◌, List}
use Rattle.std.specs.Prelude.{length, map, slice_index, slice_range, Option, Some, None, IfSome, Result, Ok, Err}
use Rattle.std.specs.List.{list_all, list_any, range_with_len}
use Rattle.btr_rack.specs.declared.error.PokeError.{PokeError}
use Rattle.btr_rack.specs.declared.error.PokeError.TheVariants.{NoImage, Range, Memory}
use Rattle.btr_rack.specs.Rack.{pasted}
use Rattle.btr_rack.specs.Memory.{MemoryRack, named, Rewrites}
use Rattle.btr_super.specs.Slot.{places}
use Rattle.btr_make.specs.Shelf.{standing}

-- the 4096 bytes of the page of a number, where the image has them all
abbrev pub page_of : List ℕ → ℕ → List ℕ
page_of image page = slice_range image (4096 * page) (4096 * page + 4096)

-- all bytes are 0
abbrev pub is_zeros : List ℕ → Bool
is_zeros bytes = list_all (λ b. b == 0) bytes

-- a page that is spoiled: the image has all of it, it stands from 1048576 on and at
-- no superblock's place, and isn't all zeros
abbrev pub is_spoiled : List ℕ → ℕ → Bool
is_spoiled image page =
    nat_le (4096 * page + 4096) (length image) && nat_le 1048576 (4096 * page) && not (list_any (λ place. place == 4096 * page) places)
    && not (is_zeros (page_of image page))

-- the byte at a place, where the pages below a number were spoiled
abbrev pub spoiled_byte : ℕ → List ℕ → ℕ → ℕ
spoiled_byte pages image i =
    if nat_lt (i / 4096) pages && is_spoiled image (i / 4096) then 255 - slice_index image i else slice_index image i

-- the image, of which the pages below a number were spoiled
unfoldable pub spoiled_below : ℕ → List ℕ → List ℕ
spoiled_below pages image = map (spoiled_byte pages image) (range_with_len 0 (length image))

-- the image, spoiled: none has as many pages as 2^51
abbrev pub spoiled : List ℕ → List ℕ
spoiled image = spoiled_below (2 ^ 51) image

-- the image of a name has these bytes now, and nothing else changed
pub record Becomes (name bytes : List ℕ) (old new : MemoryRack) : Type 0 where
  pub now : named new name ≡ Some bytes
  pub others : (other : List ℕ) → other ≢ name → named new other ≡ named old other
  pub standing : standing new ≡ standing old

-- What `spoil` does. For want of memory it stops at a page, of which some bytes were written over; those before it were
-- spoiled, and those behind it are as they were.
abbrev pub Spoils : {T : Type 0} → List ℕ → MemoryRack → MemoryRack → Result T PokeError → Type 0
Spoils name old new (Ok _) = (image : List ℕ) × (named old name ≡ Some image) × Becomes name (spoiled image) old new
Spoils name old new (Err NoImage) = (named old name ≡ None) × (new ≡ old)
Spoils name old new (Err Range) = ⊥
Spoils name old new (Err Memory) =
    (image : List ℕ) × (named old name ≡ Some image) × (page : ℕ) × (some : List ℕ) × (4096 * page + length some ≤ length image)
    × (length some ≤ 4096) × Becomes name (pasted (spoiled_below page image) (4096 * page) some) old new

-- a page's bytes, turned, if it is spoiled
abbrev pub turned_if_spoiled : List ℕ → ℕ → Option (List ℕ)
turned_if_spoiled image page = if is_spoiled image page then Some (map (λ b. 255 - b) (page_of image page)) else None

-- of the image of a name, where it has all of a page, this is the page, turned if it is spoiled
abbrev pub AnswersTurned : MemoryRack → List ℕ → ℕ → Option (List ℕ) → Type 0
AnswersTurned rack name page result =
    IfSome (named rack name) (λ image. 4096 * page + 4096 ≤ length image → result ≡ turned_if_spoiled image page)

-- of the image of a name, where it has 4096 bytes from `off` on, these are they
abbrev pub AnswersBytes : MemoryRack → List ℕ → ℕ → List ℕ → Type 0
AnswersBytes rack name off result =
    IfSome (named rack name) (λ image. off + 4096 ≤ length image → result ≡ slice_range image off (off + 4096))

-- the image, in which these bytes of a page were written, if there are any
abbrev pub with_page : List ℕ → ℕ → Option (List ℕ) → List ℕ
with_page image page None = image
with_page image page (Some bytes) = pasted image (4096 * page) bytes

-- what is done to one page, if the image has all of it
abbrev pub SpoilsPage : List ℕ → ℕ → MemoryRack → MemoryRack → Result Bool PokeError → Type 0
SpoilsPage name page old new (Ok true) =
    (image : List ℕ) × (named old name ≡ Some image) × (4096 * page + 4096 ≤ length image)
    × Becomes name (with_page image page (turned_if_spoiled image page)) old new
SpoilsPage name page old new (Ok false) = IfSome (named old name) (λ image. length image < 4096 * page + 4096) × (new ≡ old)
SpoilsPage name page old new (Err NoImage) = named old name ≡ None
SpoilsPage name page old new (Err Range) = ⊥
SpoilsPage name page old new (Err Memory) = (some : List ℕ) × (length some ≡ 4096) × Rewrites name (4096 * page) some old new
