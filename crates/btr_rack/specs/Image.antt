-- An image in memory.
use Rattle.std.specs.Prelude.{◌≡◌, ℕ, ◌+◌, ◌-◌, ◌/◌, ◌%◌, Bool, if◌then◌else◌, nat_lt, Bool, false, List, [], length, map, slice_index, take, Option}
use Rattle.std.specs.Option.{option_map_or}
use Rattle.std.specs.List.{range_with_len}
use Rattle.std.specs.Ordering.{nat_cmp}
use Rattle.std.specs.Map.{lookup}
use Rattle.std.specs.BTreeMap.{is_at}
use Rattle.std.specs.Str.{bytes_eq}
use Rattle.btr_rack.specs.Rack.{Slot, pasted}

-- the pages that are kept, each of 4096 bytes, by their numbers
abbrev pub Pages : Type 0
Pages = List (ℕ × List ℕ)

-- an image: its slot, which it fills where it is open, and its pages
pub record MemoryImage : Type 0 where
  pub slot : Slot
  pub pages : Pages

-- an image of zeros
abbrev pub zeros : List ℕ → ℕ → MemoryImage
zeros name len = record { slot = record { name = name; len = len; write = false }; pages = [] }

-- the image, opened
abbrev pub opened_for : Bool → MemoryImage → MemoryImage
opened_for write image = record image { slot = record image.slot { write = write } }

-- the image, shortened
abbrev pub shortened : ℕ → MemoryImage → MemoryImage
shortened len image = record image { slot = record image.slot { len = len } }

-- the page of a number, if it is kept
abbrev pub page_at : Pages → ℕ → Option (List ℕ)
page_at pages index = lookup (is_at (nat_cmp index)) pages

-- what is kept at a place: a page that isn't kept reads as zeros
abbrev pub kept_byte : Pages → ℕ → ℕ
kept_byte pages i = option_map_or (λ page. slice_index page (i % 4096)) (page_at pages (i / 4096)) 0

-- the byte at a place
abbrev pub page_byte : Pages → ℕ → ℕ
page_byte pages i = kept_byte pages i % 256

-- the bytes of an image
abbrev pub bytes_in : MemoryImage → List ℕ
bytes_in image = map (page_byte image.pages) (range_with_len 0 image.slot.len)

-- the image has this name
abbrev pub is_named : List ℕ → MemoryImage → Bool
is_named name image = bytes_eq image.slot.name name

-- the byte at a place i, after a piece was written over those from `at` on
abbrev pub patched : ℕ → ℕ → List ℕ → ℕ → ℕ
patched old at piece i = if nat_lt i at then old else if nat_lt i (at + length piece) then slice_index piece (i - at) else old

-- a piece was written over the bytes from `off` on
abbrev pub Patches : Pages → Pages → ℕ → List ℕ → Type 0
Patches old new off piece = (i : ℕ) → kept_byte new i ≡ patched (kept_byte old i) off piece i

-- a first part of a piece was written over the bytes from `off` on
abbrev pub PatchesPart : Pages → Pages → ℕ → List ℕ → Type 0
PatchesPart old new off piece = (n : ℕ) × Patches old new off (take n piece)

-- some n bytes were written over those from `off` on
abbrev pub PastesSome : List ℕ → List ℕ → ℕ → ℕ → Type 0
PastesSome old new off n = (some : List ℕ) × (length some ≡ n) × (new ≡ pasted old off some)

-- the range of n bytes from `off` on of an image holds any bytes
abbrev pub SpoilsRange : MemoryImage → MemoryImage → ℕ → ℕ → Type 0
SpoilsRange old new off n = PastesSome (bytes_in old) (bytes_in new) off n
