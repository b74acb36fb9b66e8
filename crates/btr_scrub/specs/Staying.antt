-- Why what is right stays: what is written is wrong, or lies in copies.
use Rattle.std.specs.Prelude.{◌≡◌, ◌⊎◌, ℕ, ◌+◌, true, false, List, map, None, Some, IsSome, IsSomeAnd, slice_get}
use Rattle.std.specs.List.{filter, list_any}
use Rattle.btr_chunk.specs.Chunk.{mirrors}
use Rattle.btr_chunk.specs.Mapping.{IsPosition}
use Rattle.btr_chunk.specs.Table.{IsTable}
use Rattle.btr_chunk.specs.declared.place.Part.{Part}
use Rattle.btr_rack.specs.declared.place.Place.{Place as Range}
use Rattle.btr_read.specs.Candidates.{Target}
use Rattle.btr_read.specs.Layout.{HaveOwnSlots, Layout, device_in}
use Rattle.btr_read.specs.declared.device.Device.{Device}
use Rattle.btr_scrub.specs.BlocksInRows.{In}
use Rattle.btr_scrub.specs.WrittenRanges.{KeepsOutside}
use Rattle.btr_chunk.specs.Apart.{LiesIn}
use Rattle.btr_scrub.specs.Places.{IsOfElement}
use Rattle.btr_scrub.specs.Repair.{covers, is_in_row}
use Rattle.btr_scrub.specs.Columns.{HasFewWrongAt, HasRightPlace, IsWrongAt}
use Rattle.btr_scrub.specs.Right.{Committed, StandsFor}
use Rattle.btr_scrub_row.specs.Rows.{Row, range_in_element, row_writes}
use Rattle.btr_scrub.specs.Survival.{GetsRight, HaveLengths, IsSoundRow, KeepsRight, RightPasses}
use Rattle.btr_scrub_copies.specs.Writes.{Images, Write}
use Rattle.btr_scrub_copies.specs.Fresh.{Failing}
use Rattle.btr_read.specs.Fate.{is_plain}

-- a row of a chunk of the table, with those of the blocks that lie in it, beside images that fail
pub record IsRowOf (layout : Layout) (fails : Failing) (blocks : List Target) (row : Row) : Type 0 where
  pub number : ℕ
  pub there : slice_get layout.chunks number ≡ Some row.chunk
  pub parity : mirrors row.chunk ≡ None
  pub position : IsPosition row.chunk (record { row = row.number; index = 0; rest = 65535 })
  pub made : row.blocks ≡ filter (is_in_row row.chunk row.number) blocks
  pub beside : row.failing ≡ fails

-- a byte of a slot is a wrong one of an element of such a row
pub record IsInWrong (images : Images) (layout : Layout) (C : Committed) (fails : Failing) (blocks : List Target) (slot off : ℕ) : Type 0 where
  pub row : Row
  pub is_row : IsRowOf layout fails blocks row
  pub part : Part
  pub of : IsOfElement layout row part slot off
  pub place : ℕ
  pub at : IsSomeAnd (range_in_element layout row part 0 65536) (λ range. off ≡ range.off + place)
  pub wrong : IsWrongAt images layout C row part place

-- a byte lies in a stripe of a chunk with copies
pub record IsInCopies (layout : Layout) (slot off : ℕ) : Type 0 where
  pub devid : ℕ
  pub device : Device
  pub given : device_in layout.devices devid ≡ Some device
  pub same_slot : device.slot ≡ slot
  pub number : ℕ
  pub stripe : ℕ
  pub lies : LiesIn layout.chunks (record { devid = devid; offset = off }) number stripe
  pub copies : IsSome (mirrors lies.chunk)

-- each byte of some ranges is wrong, or lies in a chunk with copies
abbrev pub AvoidRight : Images → Layout → Committed → Failing → List Target → List Range → Type 0
AvoidRight images layout C fails blocks ranges =
    (slot off : ℕ) → list_any (covers slot off) ranges ≡ true → IsInWrong images layout C fails blocks slot off ⊎ IsInCopies layout slot off

-- then all else of each row stays, whatever is written in the ranges
abbrev pub RightStays : Type 0
RightStays = (images left : Images) (layout : Layout) (C : Committed) (fails : Failing) (blocks : List Target) (row : Row) (ranges : List Range)
    → IsTable layout.chunks → HaveOwnSlots layout.devices → HaveLengths images layout → IsRowOf layout fails blocks row
    → AvoidRight images layout C fails blocks ranges → KeepsOutside ranges images left → KeepsRight images left layout C row

-- so each checked block of such a row that is right at its own place, or where few elements are wrong, has a candidate with
-- its committed bytes
abbrev pub RowOutlivesWrites : Type 0
RowOutlivesWrites = (images left : Images) (layout : Layout) (C : Committed) (fails : Failing) (blocks : List Target) (row : Row) (ranges : List Range)
    (t : Target)
    → IsTable layout.chunks → HaveOwnSlots layout.devices → HaveLengths images layout → IsRowOf layout fails blocks row
    → AvoidRight images layout C fails blocks ranges → KeepsOutside ranges images left
    → IsSoundRow images layout C row → RightPasses C t → HasRightPlace images C t ⊎ HasFewWrongAt images layout C row t
    → In t row.blocks → is_plain t.want ≡ false → StandsFor left C t

-- each byte that the writes of a row change is a wrong one of it
abbrev pub RowWritesAreWrong : Type 0
RowWritesAreWrong = (images : Images) (layout : Layout) (C : Committed) (fails : Failing) (blocks : List Target) (row : Row) (slot off : ℕ)
    → IsTable layout.chunks → IsRowOf layout fails blocks row → IsSoundRow images layout C row
    → ((t : Target) → In t row.blocks → GetsRight images C row t)
    → list_any (covers slot off) (map (λ (write : Write). write.range) (row_writes images layout row)) ≡ true → IsInWrong images layout C fails blocks slot off
