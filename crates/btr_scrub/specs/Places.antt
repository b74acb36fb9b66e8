-- Which byte of an image is of which full stripe.
use Rattle.std.specs.Prelude.{◌≡◌, ℕ, true, length, Some, None, IsSomeAnd, slice_get}
use Rattle.btr_chunk.specs.Chunk.{mirrors}
use Rattle.btr_chunk.specs.Mapping.{HasPart, IsPosition}
use Rattle.btr_chunk.specs.Table.{IsTable}
use Rattle.btr_chunk.specs.declared.place.Part.{Part}
use Rattle.btr_read.specs.Layout.{HaveOwnSlots, Layout}
use Rattle.btr_scrub.specs.Repair.{covers}
use Rattle.btr_scrub_row.specs.Rows.{Row, range_in_element}

-- a byte of a slot lies in an element of a full stripe of the table
pub record IsOfElement (layout : Layout) (row : Row) (part : Part) (slot off : ℕ) : Type 0 where
  pub number : ℕ
  pub there : slice_get layout.chunks number ≡ Some row.chunk
  pub parity : mirrors row.chunk ≡ None
  pub position : IsPosition row.chunk (record { row = row.number; index = 0; rest = 65535 })
  pub has : HasPart row.chunk.profile (length row.chunk.stripes) part
  pub covers : IsSomeAnd (range_in_element layout row part 0 65536) (λ range. covers slot off range ≡ true)

-- it is an element of one row at most, and one part there
abbrev pub ElementsApart : Type 0
ElementsApart = (layout : Layout) (one other : Row) (part also : Part) (slot off : ℕ) → IsTable layout.chunks → HaveOwnSlots layout.devices
    → IsOfElement layout one part slot off → IsOfElement layout other also slot off → (one.chunk ≡ other.chunk) × (one.number ≡ other.number) × (part ≡ also)
