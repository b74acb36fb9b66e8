-- The ways to get the bytes at a position of a chunk, in their order, and what each of them gives.
use Rattle.std.specs.Prelude.{ℕ, ◌+◌, ◌-◌, Bool, true, false, not, ◌&&◌, ◌==◌, nat_le, List, [], ◌∷◌, ◌++◌, length, map, slice_set, Option, Some}
use Rattle.std.specs.Prelude.{None, is_some, if◌then◌else◌}
use Rattle.std.specs.Bool.{beq}
use Rattle.std.specs.List.{range_with_len, filter, filter_map, list_all, list_any}
use Rattle.std.specs.Option.{option_map_or}
use Rattle.std.specs.Str.{bytes_eq}
use Rattle.btr_rack.specs.Rack.{bytes_of, range_in}
use Rattle.btr_rack.specs.declared.place.Place.{Place as Range}
use Rattle.btr_chunk.specs.declared.chunk.Chunk.{Chunk}
use Rattle.btr_chunk.specs.declared.position.Elements.{Elements}
use Rattle.btr_chunk.specs.declared.place.Part.{Part}
use Rattle.btr_chunk.specs.declared.place.Part.TheVariants.{Mirror, Slice, P, Q}
use Rattle.btr_chunk.specs.declared.profile.Profile.{Profile}
use Rattle.btr_chunk.specs.declared.profile.Profile.TheVariants.{Raid5, Raid6}
use Rattle.btr_chunk.specs.Chunk.{data_count, mirror_count}
use Rattle.btr_chunk.specs.Mapping.{place_at}
use Rattle.btr_parity.specs.Slices.{parity_p, parity_q}
use Rattle.btr_read.specs.declared.candidate.Candidate.{Candidate}
use Rattle.btr_read.specs.declared.candidate.Candidate.TheVariants.{Read, ByP, ByQ, ByBoth}
use Rattle.btr_read.specs.declared.device.Device.{Device}
use Rattle.btr_read.specs.declared.device.Member.{Member}
use Rattle.btr_read.specs.declared.setting.Setting.{Setting}
use Rattle.btr_read.specs.declared.want.Want.{Want}
use Rattle.btr_read.specs.Solution.{byte_lists, the_one}
use Rattle.btr_read.specs.Want.{len_of}
use Rattle.btr_read.specs.Layout.{device_in}

-- what is sought: the bytes of a want at this position of its chunk, on these devices
pub record Target : Type 0 where
  pub want : Want
  pub setting : Setting
  pub chunk : Chunk
  pub at : Elements
  pub devices : List Member

-- how many bytes are sought
abbrev pub size_of : Target → ℕ
size_of t = len_of t.setting t.want

-- how many data slices a row has
abbrev pub slice_count : Target → ℕ
slice_count t = data_count t.chunk.profile (length t.chunk.stripes)

-- the slices of k, in ascending order, but the slice i
abbrev pub others : ℕ → ℕ → List ℕ
others k i = range_with_len 0 i ++ range_with_len (i + 1) (k - (i + 1))

-- the candidates where there are copies: each of them
abbrev pub copies : ℕ → List Candidate
copies n = map (λ copy. Read (Mirror copy)) (range_with_len 0 n)

-- the candidates for slice i of k where there is parity: P for RAID5, and P and Q for RAID6
abbrev pub rebuilt : Profile → ℕ → ℕ → List Candidate
rebuilt Raid5 k i = Read (Slice i) ∷ ByP ∷ []
rebuilt Raid6 k i = Read (Slice i) ∷ ByP ∷ ByQ ∷ map ByBoth (others k i)
rebuilt _ k i = []

-- the ways to get the bytes, in the order of the profile
abbrev pub ways : Target → List Candidate
ways t =
    option_map_or copies (mirror_count t.chunk.profile (length t.chunk.stripes)) (rebuilt t.chunk.profile (slice_count t) t.at.index)

-- whether a candidate by parities, for slice i, reads a slice
abbrev pub reads_slice : ℕ → Candidate → ℕ → Bool
reads_slice i (Read part) slice = false
reads_slice i ByP slice = not (slice == i)
reads_slice i ByQ slice = not (slice == i)
reads_slice i (ByBoth j) slice = not (slice == i) && not (slice == j)

-- the slices of k that it reads
abbrev pub slices_read : ℕ → ℕ → Candidate → List Part
slices_read k i candidate = map Slice (filter (reads_slice i candidate) (range_with_len 0 k))

-- the parts that a candidate for slice i of k reads
abbrev pub parts_read : ℕ → ℕ → Candidate → List Part
parts_read k i (Read part) = part ∷ []
parts_read k i ByP = P ∷ slices_read k i ByP
parts_read k i ByQ = Q ∷ slices_read k i ByQ
parts_read k i (ByBoth j) = P ∷ Q ∷ slices_read k i (ByBoth j)

-- a part lies on a device whose image is older: it missed writes
abbrev pub is_on_older : Target → Part → Bool
is_on_older t part = option_map_or (λ device. device.older) (device_in t.devices (place_at t.chunk part t.at).devid) false

-- a candidate reads an older image
abbrev pub reads_older : Target → Candidate → Bool
reads_older t candidate = list_any (is_on_older t) (parts_read (slice_count t) t.at.index candidate)

-- of the ways those that read an older image, or those that read none
abbrev pub among : Target → Bool → List Candidate
among t older = filter (λ candidate. beq (reads_older t candidate) older) (ways t)

-- the candidates in their order: first the ways that read no older image, then the others
abbrev pub candidates : Target → List Candidate
candidates t = among t false ++ among t true

-- the bytes from an offset on in the image of a device, if it is given and they lie in the image
abbrev pub range_on : ℕ → ℕ → Option Device → Option Range
range_on off len None = None
range_on off len (Some device) = if nat_le (off + len) device.len then Some (range_in device.slot off len) else None

-- the bytes of a part, if they stand
abbrev pub range_of : Target → Part → Option Range
range_of t part = let place = place_at t.chunk part t.at in range_on place.offset (size_of t) (device_in t.devices place.devid)

-- the ranges that a candidate reads
abbrev pub ranges_of : Target → Candidate → List Range
ranges_of t candidate = filter_map (range_of t) (parts_read (slice_count t) t.at.index candidate)

-- these parts stand
abbrev pub parts_stand : Target → List Part → Bool
parts_stand t parts = list_all (λ part. is_some (range_of t part)) parts

-- a candidate stands: all that it reads does
abbrev pub stands : Target → Candidate → Bool
stands t candidate = parts_stand t (parts_read (slice_count t) t.at.index candidate)

-- whether a candidate by parities reads a slice that doesn't stand
abbrev pub lacks_slice : Target → Candidate → ℕ → Bool
lacks_slice t candidate slice = reads_slice t.at.index candidate slice && not (is_some (range_of t (Slice slice)))

module _ (images : List (List ℕ)) (t : Target) where
  -- the bytes of a part
  abbrev pub element : Part → List ℕ
  element part = option_map_or (λ range. bytes_of images range.slot range.off range.len) (range_of t part) []

  -- the data slices of the row
  abbrev pub slices : List (List ℕ)
  slices = map (λ slice. element (Slice slice)) (range_with_len 0 (slice_count t))

  -- P is that of the slices, where X stands in the place of the slice sought
  abbrev pub fits_p : List ℕ → Bool
  fits_p X = bytes_eq (parity_p (size_of t) (slice_set slices t.at.index X)) (element P)

  -- Q is that of the slices, where X stands in the place of the slice sought
  abbrev pub fits_q : List ℕ → Bool
  fits_q X = bytes_eq (parity_q (size_of t) (slice_set slices t.at.index X)) (element Q)

  -- P and Q are those of the slices, where X stands in the place of the slice sought, and Y in that of slice j
  abbrev pub fits_both : ℕ → List ℕ → List ℕ → Bool
  fits_both j X Y =
      let with_both = slice_set (slice_set slices j Y) t.at.index X in
      bytes_eq (parity_p (size_of t) with_both) (element P) && bytes_eq (parity_q (size_of t) with_both) (element Q)

  -- what a candidate gives: the bytes of a part, or the one X that solves the equations of the parities
  abbrev pub value_of : Candidate → List ℕ
  value_of (Read part) = element part
  value_of ByP = the_one (size_of t) fits_p
  value_of ByQ = the_one (size_of t) fits_q
  value_of (ByBoth j) = the_one (size_of t) (λ X. list_any (fits_both j X) (byte_lists (size_of t)))

  -- the bytes of a candidate, if it stands
  abbrev pub reading : Candidate → Option (List ℕ)
  reading candidate = if stands t candidate then Some (value_of candidate) else None

  -- the candidates that stand, in their order
  abbrev pub readings : List (List ℕ)
  readings = filter_map reading (candidates t)
