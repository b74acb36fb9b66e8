-- A plain sector, which is a sector of data without a checksum: its fresh bytes, and where it is stale beside them.
use Rattle.std.specs.Prelude.{ℕ, Bool, false, not, ◌&&◌, ◌||◌, List, [], length, slice_get, slice_index_or, Option}
use Rattle.std.specs.List.{filter, list_any}
use Rattle.std.specs.Option.{option_map, option_map_or}
use Rattle.std.specs.Str.{bytes_eq}
use Rattle.btr_chunk.specs.Mapping.{place_at}
use Rattle.btr_chunk.specs.declared.place.Part.{Part}
use Rattle.btr_read.specs.Candidates.{Target, candidates, element, parts_read, slice_count, stands, value_of}
use Rattle.btr_read.specs.Layout.{device_in}
use Rattle.btr_read.specs.declared.candidate.Candidate.{Candidate}
use Rattle.btr_read.specs.declared.device.Member.{Member}
use Rattle.btr_scrub_copies.specs.Blocks.{copy_writes, own_parts}
use Rattle.btr_scrub_copies.specs.Writes.{Images, Write, writes_if}
use Rattle.btr_scrub_copies.specs.declared.mended.Mended.{Mended}

-- by slot, the images on which some checked block doesn't pass at its place
abbrev pub Failing : Type 0
Failing = ℕ → Bool

-- what flags say, by slot
abbrev pub flagged : List Bool → Failing
flagged flags slot = slice_index_or flags slot false

-- the image of a device is in doubt: it is older, as it missed writes, or some checked block doesn't
-- pass at its place on it
abbrev pub is_doubtful : List Member → Failing → ℕ → Bool
is_doubtful devices failing devid = option_map_or (λ device. device.older || failing device.slot) (device_in devices devid) false

-- it is behind: both hold
abbrev pub is_behind : List Member → Failing → ℕ → Bool
is_behind devices failing devid = option_map_or (λ device. device.older && failing device.slot) (device_in devices devid) false

module _ (failing : Failing) (t : Target) where
  -- a part lies on an image in doubt
  abbrev pub is_on_doubtful : Part → Bool
  is_on_doubtful part = is_doubtful t.devices failing (place_at t.chunk part t.at).devid

  -- a part lies on an image that is behind
  abbrev pub is_on_behind : Part → Bool
  is_on_behind part = is_behind t.devices failing (place_at t.chunk part t.at).devid

  -- some place of its own does
  abbrev pub lies_behind : Bool
  lies_behind = list_any is_on_behind (own_parts t)

  -- a candidate reads an image in doubt
  abbrev pub reads_doubtful : Candidate → Bool
  reads_doubtful candidate = list_any is_on_doubtful (parts_read (slice_count t) t.at.index candidate)

  -- a candidate is trusted: it stands, and reads no image in doubt
  abbrev pub is_trusted : Candidate → Bool
  is_trusted candidate = stands t candidate && not (reads_doubtful candidate)

  -- the first candidate that is trusted, if one is
  abbrev pub first_trusted : Option Candidate
  first_trusted = slice_get (filter is_trusted (candidates t)) 0

module _ (images : Images) (failing : Failing) (t : Target) where
  -- the fresh bytes: those of the first candidate that is trusted, if one is
  abbrev pub fresh : Option (List ℕ)
  fresh = option_map (value_of images t) (first_trusted failing t)

  -- a place is stale beside bytes: it lies on an image that is behind, and has others
  abbrev pub is_stale : List ℕ → Part → Bool
  is_stale bytes part = is_on_behind failing t part && not (bytes_eq (element images t part) bytes)

  -- its own places that are
  abbrev pub stale_beside : List ℕ → List Part
  stale_beside bytes = filter (is_stale bytes) (own_parts t)

  -- those that are stale beside the fresh bytes, where there are such bytes
  abbrev pub stale_parts : List Part
  stale_parts = option_map_or stale_beside fresh []

  -- the writes that bring it up to date: the fresh bytes, at each stale one of its own places
  abbrev pub fresh_writes : List Write
  fresh_writes = option_map_or (λ bytes. copy_writes t bytes stale_parts) fresh []

  -- what comes of it, which is written or only read
  abbrev pub freshened : Bool → Mended
  freshened write = record { bad = length stale_parts; repaired = length (writes_if write fresh_writes); lost = false }
