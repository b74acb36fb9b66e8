-- What the steps of a rack in memory do to its images.
use Rattle.std.specs.Prelude.{◌≡◌, ℕ, ◌+◌, ◌^◌, ◌<◌, ◌≤◌, Bool, true, false, List, length, take, drop, if◌then◌else◌, replicate, slice_index_or}
use Rattle.std.specs.Prelude.{slice_set, Option, Some, None, Result, Ok, Err}
use Rattle.std.specs.List.{list_any, position, position_or_len, insert, remove}
use Rattle.btr_rack.specs.Rack.{pasted}
use Rattle.btr_rack.specs.Image.{MemoryImage, bytes_in, is_named, opened_for, shortened}

-- the first image of a name stands here
pub record StandsAt (name : List ℕ) (images : List MemoryImage) (at : ℕ) : Type 0 where
  pub within : at < length images
  pub first : at ≡ position_or_len (is_named name) images

-- the place on the shelf of the first image of a name that is not open
abbrev pub shelf_place : ℕ → List ℕ → List MemoryImage → Option ℕ
shelf_place opened name images =
    if list_any (is_named name) (take opened images) then None else position (is_named name) (drop opened images)

-- the image at a place of the shelf became the last of the open ones
pub record Moves (opened at : ℕ) (write : Bool) (old new : List MemoryImage) : Type 0 where
  pub image : MemoryImage
  pub stood : image ≡ slice_index_or old (opened + at) image
  pub short : image.slot.len < 2 ^ 63
  pub moved : new ≡ insert (remove old (opened + at)) opened (opened_for write image)

-- the image at a place was written over from `off` on
pub record Overwrites (at off : ℕ) (bytes : List ℕ) (old new : List MemoryImage) : Type 0 where
  pub before : MemoryImage
  pub after : MemoryImage
  pub stood : before ≡ slice_index_or old at before
  pub now : new ≡ slice_set old at after
  pub slot : after.slot ≡ before.slot
  pub pasted_in : bytes_in after ≡ pasted (bytes_in before) off bytes

-- what a write does: where memory runs out, some bytes of the range were written
abbrev pub WritesImage : {T E : Type 0} → ℕ → ℕ → List ℕ → List MemoryImage → List MemoryImage → Result T E → Type 0
WritesImage at off bytes old new (Ok _) = Overwrites at off bytes old new
WritesImage at off bytes old new (Err _) = (some : List ℕ) × (length some ≡ length bytes) × Overwrites at off some old new

-- what a write that is to fail does: it fills its range with a byte, or changes nothing
abbrev pub TearsImage : {T E : Type 0} → Option ℕ → ℕ → ℕ → ℕ → List MemoryImage → List MemoryImage → Result T E → Type 0
TearsImage None at off len old new result = new ≡ old
TearsImage (Some byte) at off len old new result = WritesImage at off (replicate len byte) old new result

-- what a cut does: it shortens the image at a place, or refuses one that is shorter
abbrev pub CutsImage : ℕ → ℕ → List MemoryImage → List MemoryImage → Bool → Type 0
CutsImage at len old new true =
    (image : MemoryImage) × (image ≡ slice_index_or old at image) × (len ≤ image.slot.len) × (new ≡ slice_set old at (shortened len image))
CutsImage at len old new false = (image : MemoryImage) × (image ≡ slice_index_or old at image) × (image.slot.len < len) × (new ≡ old)
