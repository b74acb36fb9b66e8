-- Full stripes: a row of a chunk with parity, and its columns, the 4096 bytes at
-- one multiple of 4096 in each of its elements.
use Rattle.std.specs.Prelude.{ℕ, ◌+◌, ◌*◌, Bool, not, ◌&&◌, ◌||◌, ◌==◌, nat_lt, List, [], ◌∷◌, ◌++◌, length, map, Option, is_some, slice_range}
use Rattle.std.specs.List.{filter, filter_map, flat_map, fold, list_all, list_any, range_with_len}
use Rattle.std.specs.Option.{option_map, option_map_or}
use Rattle.std.specs.Str.{bytes_eq}
use Rattle.btr_chunk.specs.Chunk.{data_count}
use Rattle.btr_chunk.specs.Mapping.{place_at}
use Rattle.btr_chunk.specs.declared.chunk.Chunk.{Chunk}
use Rattle.btr_chunk.specs.declared.place.Part.{Part}
use Rattle.btr_chunk.specs.declared.place.Part.TheVariants.{Mirror, Slice, P, Q}
use Rattle.btr_chunk.specs.declared.profile.Profile.{Profile}
use Rattle.btr_chunk.specs.declared.profile.Profile.TheVariants.{Raid5, Raid6}
use Rattle.btr_parity.specs.Slices.{parity_p, parity_q}
use Rattle.btr_rack.specs.Rack.{bytes_of, pasted}
use Rattle.btr_rack.specs.declared.place.Place.{Place as Range}
use Rattle.btr_read.specs.Candidates.{Target, size_of, range_on}
use Rattle.btr_read.specs.Layout.{Layout, device_in}
use Rattle.btr_read.specs.Fate.{is_plain}
use Rattle.btr_read.specs.declared.device.Member.{Member}
use Rattle.btr_scrub_copies.specs.Fresh.{Failing, is_doubtful, is_on_doubtful}
use Rattle.btr_scrub_copies.specs.Writes.{Write}
use Rattle.btr_scrub_row.specs.Wanted.{new_bytes, mending_writes}

-- a full stripe: a row of a chunk, the checked blocks and the plain sectors in it, and by slot the images on which some
-- checked block doesn't pass
pub record Row : Type 0 where
  pub chunk : Chunk
  pub number : ℕ
  pub blocks : List Target
  pub failing : Failing

-- how many slices a full stripe has
abbrev pub slice_count : Row → ℕ
slice_count row = data_count row.chunk.profile (length row.chunk.stripes)

-- the blocks in a slice
abbrev pub blocks_at : Row → ℕ → List Target
blocks_at row i = filter (λ t. t.at.index == i) row.blocks

-- the parities of a profile
abbrev pub parities : Profile → List Part
parities Raid5 = P ∷ []
parities Raid6 = P ∷ Q ∷ []
parities _ = []

-- some bytes of the element of a part, from a byte of it on
abbrev pub range_in_element : Layout → Row → Part → ℕ → ℕ → Option Range
range_in_element layout row part rest len =
    let place = place_at row.chunk part (record { row = row.number; index = 0; rest = rest }) in
    range_on place.offset len (device_in layout.devices place.devid)

-- a column of some bytes of an element
abbrev pub column_of : ℕ → List ℕ → List ℕ
column_of column bytes = slice_range bytes (column * 4096) (column * 4096 + 4096)

-- some image of a chunk is in doubt
abbrev pub has_doubtful : List Member → Failing → Chunk → Bool
has_doubtful devices failing chunk = list_any (λ stripe. is_doubtful devices failing stripe.devid) chunk.stripes

-- a block has bytes in a column
abbrev pub meets : ℕ → Target → Bool
meets column t = nat_lt t.at.rest (column * 4096 + 4096) && nat_lt (column * 4096) (t.at.rest + size_of t)

module _ (images : List (List ℕ)) (layout : Layout) where
  -- the bytes of the element of a part
  abbrev pub element : Row → Part → List ℕ
  element row part = option_map_or (λ range. bytes_of images range.slot range.off range.len) (range_in_element layout row part 0 65536) []

  -- bytes of an element, with those that are given for a block in the block's place
  abbrev pub with_block : (Target → Option (List ℕ)) → List ℕ → Target → List ℕ
  with_block given bytes t = option_map_or (pasted bytes t.at.rest) (given t) bytes

  -- a slice: what is given for each of its blocks, and the image's bytes elsewhere
  abbrev pub slice_with : (Target → Option (List ℕ)) → Row → ℕ → List ℕ
  slice_with given row i = fold (with_block given) (element row (Slice i)) (blocks_at row i)

  -- all slices of a full stripe, with what is given for their blocks
  abbrev pub slices_with : (Target → Option (List ℕ)) → Row → List (List ℕ)
  slices_with given row = map (slice_with given row) (range_with_len 0 (slice_count row))

  -- an element of the row with those slices: a slice, or a parity of them
  abbrev pub element_with : (Target → Option (List ℕ)) → Row → Part → List ℕ
  element_with given row (Slice i) = slice_with given row i
  element_with given row P = parity_p 65536 (slices_with given row)
  element_with given row Q = parity_q 65536 (slices_with given row)
  element_with given row (Mirror i) = []

  -- a plain sector is surer than what some other image of its chunk holds: an image is in doubt, and its own isn't
  abbrev pub is_surer : Row → Target → Bool
  is_surer row t = has_doubtful layout.devices row.failing row.chunk && not (is_on_doubtful row.failing t (Slice t.at.index))

  -- what stands in a block's place in the new data is sure: the block gets bytes, or is a plain sector that is surer
  abbrev pub is_sure : Row → Target → Bool
  is_sure row t = is_some (new_bytes images row.failing t) || is_plain t.want && is_surer row t

  -- a column is decided: some block meets it, and what stands in the place of each that does is sure
  abbrev pub is_decided : Row → ℕ → Bool
  is_decided row column = list_any (meets column) row.blocks && list_all (λ t. not (meets column t) || is_sure row t) row.blocks

  -- a parity of the new data differs from that in the image
  abbrev pub differs : Row → Part → ℕ → Bool
  differs row part column = not (bytes_eq (column_of column (element row part)) (column_of column (element_with (new_bytes images row.failing) row part)))

  -- the decided columns where it does
  abbrev pub differing : Row → Part → List ℕ
  differing row part = filter (λ column. is_decided row column && differs row part column) (range_with_len 0 16)

  -- the write of a column of a parity, as the new data give it, if its element has an image
  abbrev pub sector_write : Row → Part → ℕ → Option Write
  sector_write row part column =
      option_map (λ range. record { range = range; bytes = column_of column (element_with (new_bytes images row.failing) row part) })
      (range_in_element layout row part (column * 4096) 4096)

  -- the writes that mend a parity, by ascending column
  abbrev pub parity_writes : Row → Part → List Write
  parity_writes row part = filter_map (sector_write row part) (differing row part)

  -- the writes that mend the blocks of the row, ascending
  abbrev pub rebuilt_writes : Row → List Write
  rebuilt_writes row = flat_map (mending_writes images row.failing) row.blocks

  -- the writes that mend its parities: P, then Q
  abbrev pub parities_writes : Row → List Write
  parities_writes row = flat_map (parity_writes row) (parities row.chunk.profile)

  -- the writes that mend the row: the blocks, and behind them the parities
  abbrev pub row_writes : Row → List Write
  row_writes row = rebuilt_writes row ++ parities_writes row
