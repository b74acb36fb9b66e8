-- What mending a full stripe did.
use Rattle.std.specs.Prelude.{◌≡◌, ℕ, ◌+◌, ◌*◌, ◌≤◌, Bool, List, [], false, length, map, Option, None, IfSome, IsSome, IsSomeAnd, Some, Result, Ok}
use Rattle.std.specs.Prelude.{Err, if◌then◌else◌, count_by}
use Rattle.std.specs.List.{All, sum_by}
use Rattle.btr_chunk.specs.Chunk.{mirrors, stripe_length}
use Rattle.btr_chunk.specs.Mapping.{HasPart}
use Rattle.btr_chunk.specs.Table.{chunk_at}
use Rattle.btr_chunk.specs.declared.place.Part.{Part}
use Rattle.btr_rack.specs.Rack.{OnlyReads, Seen}
use Rattle.btr_rack.specs.declared.place.Place.{Place as Range}
use Rattle.btr_read.specs.Candidates.{Target}
use Rattle.btr_read.specs.Cause.{LiesIn}
use Rattle.btr_read.specs.Fate.{Fault, sought}
use Rattle.btr_read.specs.Layout.{Layout}
use Rattle.btr_read.specs.declared.want.Want.{Want}
use Rattle.btr_scrub_copies.specs.Syncing.{AreMarked, IsSyncOr, Strands, plain}
use Rattle.btr_scrub_copies.specs.Turns.{WaitsAt, WaitsInTurn}
use Rattle.btr_scrub_copies.specs.Writes.{DoesWrites, Images, writes_if}
use Rattle.btr_scrub_copies.specs.declared.mended.MendFault.{MendFault}
use Rattle.btr_scrub_row.specs.Wanted.{is_checked, is_lost_block, mending_writes, wrong_parts}
use Rattle.btr_scrub_row.specs.Rows.{Row, parities, parities_writes, parity_writes, range_in_element, rebuilt_writes, row_writes}
use Rattle.btr_scrub_row.specs.declared.buffer.RowBuffer.{RowBuffer}
use Rattle.btr_scrub_row.specs.declared.mended.MendedRow.{MendedRow}

-- a full stripe of the chunk that starts at an address: the chunk has the row, and each
-- element of it stands on a device that is given
pub record IsFullStripe (layout : Layout) (start number : ℕ) (row : Row) : Type 0 where
  pub chunk : chunk_at layout.chunks start ≡ Some row.chunk
  pub number_is : row.number ≡ number
  pub parity : mirrors row.chunk ≡ None
  pub inside : number * 65536 + 65536 ≤ stripe_length row.chunk
  pub stand : (part : Part) → HasPart row.chunk.profile (length row.chunk.stripes) part → IsSome (range_in_element layout row part 0 65536)

-- there is a full stripe of this number
pub record HasStripe (layout : Layout) (start number : ℕ) : Type 0 where
  pub row : Row
  pub is : IsFullStripe layout start number row

-- a block lies in the row
pub record IsOn (row : Row) (t : Target) : Type 0 where
  pub chunk : t.chunk ≡ row.chunk
  pub number : t.at.row ≡ row.number

-- a want has this position
abbrev pub is_at : Target → Result Target Fault
is_at t = Ok t

-- the row of a number in the chunk that starts at an address, whose checked blocks
-- and plain sectors are those of some wants, in their order
pub record IsRowOf (layout : Layout) (start number : ℕ) (wants : List Want) (row : Row) : Type 0 where
  pub stripe : IsFullStripe layout start number row
  pub blocks : map (sought layout) wants ≡ map is_at row.blocks
  pub lie : All (IsOn row) row.blocks

-- there is a row of this number, with these blocks
pub record IsRow (layout : Layout) (start number : ℕ) (wants : List Want) : Type 0 where
  pub row : Row
  pub is : IsRowOf layout start number wants row

-- a buffer has room for the elements of a row
pub record HasRoom (buffer : RowBuffer) (count : ℕ) : Type 0 where
  pub elements : count * 65536 ≤ length buffer.elements.items
  pub slices : count * 65536 ≤ length buffer.slices.items
  pub p : 65536 ≤ length buffer.p.items
  pub q : 65536 ≤ length buffer.q.items
  pub block : 65536 ≤ length buffer.block.items
  pub spare : 65536 ≤ length buffer.spare.items

-- a buffer has room for the elements of the row of a number in the chunk that starts at an address
abbrev pub HasRoomFor : Layout → ℕ → ℕ → List Want → RowBuffer → Type 0
HasRoomFor layout start number wants buffer = (row : Row) → IsRowOf layout start number wants row → HasRoom buffer (length row.chunk.stripes)

-- a range lies in an element of the row
pub record IsOfRow (layout : Layout) (row : Row) (range : Range) : Type 0 where
  pub part : Part
  pub has : HasPart row.chunk.profile (length row.chunk.stripes) part
  pub lies : IsSomeAnd (range_in_element layout row part 0 65536) (LiesIn range)

-- how many sectors of its parities are wrong
abbrev pub parity_count : Images → Layout → Row → ℕ
parity_count images layout row = sum_by (λ part. length (parity_writes images layout row part)) (parities row.chunk.profile)

-- what comes of a row, which is written or only read
abbrev pub mended_row : Images → Layout → Row → Bool → MendedRow
mended_row images layout row write = record {
  blocks = count_by is_checked row.blocks;
  bad = sum_by (λ t. length (wrong_parts images row.failing t)) row.blocks;
  repaired = if write then sum_by (λ t. length (mending_writes images row.failing t)) row.blocks else 0;
  lost = count_by (is_lost_block images) row.blocks;
  parity = parity_count images layout row;
}

-- the counts of what came of it
abbrev pub CountsRow : Option Images → Layout → Row → Bool → Result MendedRow MendFault → Type 0
CountsRow held layout row write (Ok mended) = IfSome held (λ images. mended ≡ mended_row images layout row write)
CountsRow held layout row write (Err fault) = Unit {0}

-- A row was read, and written where it is to be mended: exactly the writes that mend it, or those up to a call that
-- failed. Its parities are written in a turn of their own, behind its blocks. Where all that waited for a sync was
-- marked, it is. Where the row was only to be read, it was.
pub record MendsRow (layout : Layout) (row : Row) (write : Bool) (marks marks' : List Bool) (old new : Seen)
    (result : Result MendedRow MendFault) : Type 0 where
  pub does : DoesWrites (IsSyncOr (IsOfRow layout row)) (λ images. writes_if write (row_writes images layout row)) [] [] (plain old) (plain new) result
  pub waits : IfSome old.held (λ images. WaitsInTurn (writes_if write (rebuilt_writes images layout row))
      (writes_if write (parities_writes images layout row)) images old new)
  pub lie : WaitsAt (IsOfRow layout row) old new
  pub marked : AreMarked marks old.unsynced → AreMarked marks' new.unsynced
  pub stranded : Strands old.never_synced new.never_synced result
  pub counts : CountsRow old.held layout row write result
  pub unwritten : write ≡ false → OnlyReads old new
