-- Bytes of an image that are kept, and the sectors that lie in them.
use Rattle.std.specs.Prelude.{◌≡◌, ℕ, ◌+◌, ◌-◌, ◌≤◌, ◌<◌, Bool, true, false, List, length, take, slice_get, slice_range, Option, Some, None, IfSome}
use Rattle.std.specs.Prelude.{Result, Ok, Err, is_ok}
use Rattle.btr_base.specs.declared.stored.Sum.{Sum}
use Rattle.btr_chunk.specs.declared.place.Part.{Part}
use Rattle.btr_rack.specs.Rack.{Seen, Slot, Steady, len_of, bytes_of, AreBytesOf}
use Rattle.btr_rack.specs.declared.place.Place.{Place}
use Rattle.btr_read.specs.Candidates.{Target, candidates, range_of}
use Rattle.btr_read.specs.declared.candidate.Candidate.{Candidate}
use Rattle.btr_read.specs.declared.candidate.Candidate.TheVariants.{Read}
use Rattle.btr_read.specs.Cause.{LiesIn}
use Rattle.btr_read.specs.Fate.{Fault, fate, sought}
use Rattle.btr_read.specs.Layout.{Layout}
use Rattle.btr_read.specs.Want.{passes}
use Rattle.btr_read.specs.declared.want.Want.{Want}
use Rattle.btr_read.specs.declared.want.Want.TheVariants.{Tree, Block, Sector, Plain}
use Rattle.btr_ahead.specs.declared.data_ahead.DataAhead.{DataAhead}
use Rattle.btr_ahead.specs.declared.kept_bytes.KeptBytes.{KeptBytes}

-- the part that a candidate reads as it stands
abbrev pub part_read : Option Candidate → Option Part
part_read None = None
part_read (Some (Read part)) = Some part
part_read (Some candidate) = None

-- the part that is read first of what is sought, if the first candidate reads one as it stands
abbrev pub first_part : Target → Option Part
first_part t = part_read (slice_get (candidates t) 0)

-- where a part of what is sought stands, if there is one
abbrev pub range_of_part : Target → Option Part → Option Place
range_of_part t None = None
range_of_part t (Some part) = range_of t part

-- where the bytes stand that are read first of what is sought, if the first candidate reads a part as it stands
abbrev pub first_range : Result Target Fault → Option Place
first_range (Err fault) = None
first_range (Ok t) = range_of_part t (first_part t)

-- the place of the bytes that are sought first for the sector at an address, if it has a position, and they stand
abbrev pub first_place : Layout → ℕ → Option Place
first_place layout addr = first_range (sought layout (Plain addr))

-- this is the place of the bytes that are sought first for the sector at an address: where they
-- pass by a checksum, the sector comes to them
abbrev pub IsFirstPlace : Layout → ℕ → Place → Type 0
IsFirstPlace layout addr place =
    (images : List (List ℕ)) (sum : Sum) → let bytes = bytes_of images place.slot place.off place.len in
    passes layout.setting (Sector addr sum) bytes ≡ true → fate images layout (Sector addr sum) ≡ Ok bytes

-- a place of 4096 bytes lies in an open slot
pub record IsInSlot (slots : List Slot) (place : Place) : Type 0 where
  pub there : place.slot < length slots
  pub sector : place.len ≡ 4096
  pub inside : place.off + place.len ≤ len_of slots place.slot

-- the bytes that are kept are those of their place, where the images are told
abbrev pub AreRead : Option (List (List ℕ)) → KeptBytes → Type 0
AreRead held kept = AreBytesOf held kept.place.slot kept.place.off kept.place.len (take kept.place.len kept.bytes)

-- the bytes that were read ahead are those of their place, where the images are told
abbrev pub IsAhead : Option (List (List ℕ)) → DataAhead → Type 0
IsAhead held ahead = AreRead held ahead.kept

-- the bytes of a place in them
abbrev pub piece_of : KeptBytes → Place → List ℕ
piece_of kept place = let from = place.off - kept.place.off in slice_range kept.bytes from (from + place.len)

-- a want comes to bytes, where the images are told
abbrev pub CanBeRead : Option (List (List ℕ)) → Layout → Want → Type 0
CanBeRead held layout want = IfSome held (λ images. is_ok (fate images layout want) ≡ true)

-- the bytes of a place pass for a want, if there is a place
abbrev pub passes_at : List (List ℕ) → Layout → Want → Option Place → Bool
passes_at images layout want None = false
passes_at images layout want (Some place) = passes layout.setting want (bytes_of images place.slot place.off place.len)

-- what is sought first passes: for a sector with a checksum alone
abbrev pub first_passes : List (List ℕ) → Layout → Want → Bool
first_passes images layout (Tree addr generation level) = false
first_passes images layout (Block addr) = false
first_passes images layout (Sector addr sum) = passes_at images layout (Sector addr sum) (first_place layout addr)
first_passes images layout (Plain addr) = false

-- whether what is sought first passes, where the images are told
abbrev pub SaysFirst : Option (List (List ℕ)) → Layout → Want → Bool → Type 0
SaysFirst held layout want answer = IfSome held (λ images. answer ≡ first_passes images layout want)

-- no read failed between
abbrev pub AreSteady : Seen → Seen → Type 0
AreSteady old new = Steady old.account.faults new.account.faults

-- a place is kept: it lies in that of the bytes that are kept, and these are there
pub record IsPlaceKept (kept : KeptBytes) (place : Place) : Type 0 where
  pub lies : LiesIn place kept.place
  pub room : place.off - kept.place.off + place.len ≤ length kept.bytes
