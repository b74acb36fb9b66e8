-- The candidate that is sought first.
use Rattle.std.proofs.Common.{◌≡◌, ◌⊎◌, ℕ, zero, suc, ◌+◌, ◌<◌, ◌≤◌, true, cond, List, [], ◌∷◌, map, length, Some, None, Ok, IfOk, refl, sym, ap, subst, ◌∙◌}
use Rattle.std.proofs.Common.{slice_get, inl, inr, arith}
use Rattle.std.proofs.lemmas.Bool.{eqb-true, le-leb}
use Rattle.std.proofs.lemmas.Option.{same_Some}
use Rattle.std.specs.List.{filter, filter_map}
use Rattle.std.specs.Option.{option_map_or}
use Rattle.btr_base.specs.declared.stored.Sum.{Sum}
use Rattle.btr_chunk.proofs.Rows.{without_copies}
use Rattle.btr_chunk.proofs.Rule.{facts}
use Rattle.btr_chunk.specs.Chunk.{IsChunk, has_count, mirror_count, mirrors}
use Rattle.btr_chunk.specs.Mapping.{elements_of, place_at}
use Rattle.btr_chunk.specs.Table.{chunk_at}
use Rattle.btr_chunk.specs.declared.chunk.Chunk.{Chunk}
use Rattle.btr_chunk.specs.declared.place.Part.{Part}
use Rattle.btr_chunk.specs.declared.place.Part.TheVariants.{Mirror, Slice}
use Rattle.btr_chunk.specs.declared.position.Elements.{Elements}
use Rattle.btr_chunk.specs.declared.profile.Profile.{Profile}
use Rattle.btr_chunk.specs.declared.profile.Profile.TheVariants.{Single, Dup, Raid0, Raid1, Raid1c3, Raid1c4, Raid10, Raid5, Raid6}
use Rattle.btr_rack.specs.Rack.{bytes_of, range_in}
use Rattle.btr_read.specs.Candidates.{Target, candidates, copies, others, range_of, range_on, reading, readings, rebuilt, slice_count}
use Rattle.btr_read.specs.Fate.{fate, fate_of, or_lost, sought, sought_at, sought_in, target}
use Rattle.btr_read.specs.Layout.{Layout, device_in}
use Rattle.btr_read.specs.Order.{IsWayAt}
use Rattle.btr_read.specs.Want.{passes}
use Rattle.btr_read.specs.declared.candidate.Candidate.{Candidate}
use Rattle.btr_read.specs.declared.candidate.Candidate.TheVariants.{Read, ByP, ByQ, ByBoth}
use Rattle.btr_read.specs.declared.device.Device.{Device}
use Rattle.btr_read.specs.declared.want.Want.{Want}
use Rattle.btr_read.specs.declared.want.Want.TheVariants.{Plain, Sector}
use Rattle.btr_read.proofs.Order.{copy_in_order}
use Rattle.btr_ahead.specs.Ahead.{first_part, part_read}

-- what is said of a sector that is sought, by its chunk and its position
pub at_target : (layout : Layout) (addr : ℕ) (chunk : Chunk) (at : Elements) (way : ℕ) → chunk_at layout.chunks addr ≡ Some chunk
    → elements_of chunk addr 4096 ≡ Ok at
    → IfOk (sought layout (Plain addr)) (IsWayAt 0 way) → IsWayAt 0 way (target layout (Plain addr) chunk at)
at_target layout addr chunk at way there placed h =
    let is : sought layout (Plain addr) ≡ Ok (target layout (Plain addr) chunk at) =
    ap (sought_in layout (Plain addr)) there ∙ ap (sought_at layout (Plain addr) chunk) placed in
    subst (λ r. IfOk r (IsWayAt 0 way)) is h

-- with parity the first way is the slice itself, and no other one reads a part as it stands
none_by_both : (xs : List ℕ) (j : ℕ) → part_read (slice_get (map ByBoth xs) j) ≡ None
none_by_both [] zero = refl
none_by_both [] (suc j) = refl
none_by_both (x ∷ xs) zero = refl
none_by_both (x ∷ xs) (suc j) = none_by_both xs j

-- of no ways none reads a part
none_past : (way : ℕ) → part_read (slice_get [] way) ≡ None
none_past zero = refl
none_past (suc way) = refl

-- in RAID5 only the first way reads a part as it stands
other_of_five : (k index way : ℕ) → (way ≡ 0 → ⊥) → part_read (slice_get (rebuilt Raid5 k index) way) ≡ None
other_of_five k index zero ne = absurd (ne refl)
other_of_five k index (suc zero) ne = refl
other_of_five k index (suc (suc way)) ne = none_past way

-- in RAID6 only the first way reads a part as it stands
other_of_six : (k index way : ℕ) → (way ≡ 0 → ⊥) → part_read (slice_get (rebuilt Raid6 k index) way) ≡ None
other_of_six k index zero ne = absurd (ne refl)
other_of_six k index (suc zero) ne = refl
other_of_six k index (suc (suc zero)) ne = refl
other_of_six k index (suc (suc (suc j))) ne = none_by_both (others k index) j

-- with parity the first way reads the slice itself
row_own : (p : Profile) (k index : ℕ) → (p ≡ Raid5) ⊎ (p ≡ Raid6) → part_read (slice_get (rebuilt p k index) 0) ≡ Some (Slice index)
row_own p k index (inl five) = ap (λ p. part_read (slice_get (rebuilt p k index) 0)) five
row_own p k index (inr six) = ap (λ p. part_read (slice_get (rebuilt p k index) 0)) six

-- with parity no way but the first reads a part as it stands
row_other : (p : Profile) (k index way : ℕ) → (p ≡ Raid5) ⊎ (p ≡ Raid6) → (way ≡ 0 → ⊥) → part_read (slice_get (rebuilt p k index) way) ≡ None
row_other p k index way (inl five) ne = ap (λ p. part_read (slice_get (rebuilt p k index) way)) five ∙ other_of_five k index way ne
row_other p k index way (inr six) ne = ap (λ p. part_read (slice_get (rebuilt p k index) way)) six ∙ other_of_six k index way ne

module _ (t : Target) (way : ℕ) (none : mirrors t.chunk ≡ None) (at : IsWayAt 0 way t) where
  -- with parity the part that is read first is the one that the first candidate's way reads
  of_row : first_part t ≡ part_read (slice_get (rebuilt t.chunk.profile (slice_count t) t.at.index) way)
  of_row = ap part_read (sym at) ∙ ap (λ o. part_read (slice_get (option_map_or copies o (rebuilt t.chunk.profile (slice_count t) t.at.index)) way)) none

  -- with parity the slice itself is read first, where the first candidate is the first way
  pub with_own : way ≡ 0 → first_part t ≡ Some (Slice t.at.index)
  with_own z =
      of_row ∙ ap (λ w. part_read (slice_get (rebuilt t.chunk.profile (slice_count t) t.at.index) w)) z
      ∙ row_own t.chunk.profile (slice_count t) t.at.index (without_copies t.chunk.profile (length t.chunk.stripes) none)

  -- with parity no part is read first, where the first candidate is another way
  pub with_other : (way ≡ 0 → ⊥) → first_part t ≡ None
  with_other ne = of_row ∙ row_other t.chunk.profile (slice_count t) t.at.index way (without_copies t.chunk.profile (length t.chunk.stripes) none) ne

-- where there are copies, there is one at least
copies_there : (p : Profile) (n m : ℕ) → has_count p n ≡ true → mirror_count p n ≡ Some m → 0 < m
copies_there Single n m count e = omega (arith, eqb-true n 1 count, same_Some n m e)
copies_there Dup n m count e = omega (arith, eqb-true n 2 count, same_Some n m e)
copies_there Raid1 n m count e = omega (arith, eqb-true n 2 count, same_Some n m e)
copies_there Raid1c3 n m count e = omega (arith, eqb-true n 3 count, same_Some n m e)
copies_there Raid1c4 n m count e = omega (arith, eqb-true n 4 count, same_Some n m e)
copies_there Raid0 n m count e = omega (arith, same_Some 1 m e)
copies_there Raid10 n m count e = omega (arith, same_Some 2 m e)
copies_there Raid5 n m count e = cc
copies_there Raid6 n m count e = cc

-- with copies the part that is read first is the copy of the first candidate's number, and there is that copy
pub with_copies : (t : Target) (n way : ℕ) → IsChunk t.chunk → mirrors t.chunk ≡ Some n → IsWayAt 0 way t → (way < n) × (first_part t ≡ Some (Mirror way))
with_copies t n way is has at =
    let some = copies_there t.chunk.profile (length t.chunk.stripes) n (facts t.chunk is).count has in
    let c = copy_in_order t n 0 way has some at in (c.0, ap part_read c.1)

-- the candidates begin with the part that is read first
begins : (cs : List Candidate) (part : Part) → part_read (slice_get cs 0) ≡ Some part → (rest : List Candidate) × (cs ≡ Read part ∷ rest)
begins [] part e = cc
begins (Read p ∷ cs) part e = (cs, ap (λ p. Read p ∷ cs) (same_Some p part e))
begins (ByP ∷ cs) part e = cc
begins (ByQ ∷ cs) part e = cc
begins (ByBoth j ∷ cs) part e = cc

module _ (layout : Layout) (addr : ℕ) (chunk : Chunk) (at : Elements) (part : Part) (device : Device) (there : chunk_at layout.chunks addr ≡ Some chunk)
    (placed : elements_of chunk addr 4096 ≡ Ok at) (part_is : first_part (target layout (Plain addr) chunk at) ≡ Some part)
    (given : device_in layout.devices (place_at chunk part at).devid ≡ Some device)
    (inside : (place_at chunk part at).offset + 4096 ≤ device.len) (images : List (List ℕ)) (sum : Sum) where
  -- where the part begins on its device
  abbrev off : ℕ
  off = (place_at chunk part at).offset

  -- the sector at the address, with a sum
  abbrev want : Want
  want = Sector addr sum

  -- what is sought for the sector
  abbrev t : Target
  t = target layout want chunk at

  -- the bytes of the part, as they stand in the image of its device
  abbrev bytes : List ℕ
  bytes = bytes_of images device.slot off 4096

  -- what is sought for the sector is at its chunk and position
  sought_is : sought layout want ≡ Ok t
  sought_is = ap (sought_in layout want) there ∙ ap (sought_at layout want chunk) placed

  -- the part stands in the range of 4096 bytes on its device's image
  range_is : range_of t part ≡ Some (range_in device.slot off 4096)
  range_is = ap (range_on off 4096) given ∙ ap (λ b. cond b (Some (range_in device.slot off 4096)) None) (le-leb (off + 4096) device.len inside)

  -- reading the part gives the bytes that stand there
  reading_is : reading images t (Read part) ≡ Some bytes
  reading_is = rw range_is refl

  -- the candidates begin with the part
  first : (rest : List Candidate) × (candidates t ≡ Read part ∷ rest)
  first = begins (candidates t) part part_is

  -- the readings begin with the part's bytes
  readings_are : (rest : List (List ℕ)) × (readings images t ≡ bytes ∷ rest)
  readings_are = (filter_map (reading images t) first.0, ap (filter_map (reading images t)) first.1 ∙ rw reading_is refl)

  -- where the bytes that are read first pass, the sector comes to them
  pub comes : passes layout.setting want bytes ≡ true → fate images layout want ≡ Ok bytes
  comes pass =
      let test = passes layout.setting want in
      ap (fate_of images addr) sought_is
      ∙ ap (λ xs. or_lost addr (slice_get (filter test xs) 0)) readings_are.1
      ∙ rw pass refl
