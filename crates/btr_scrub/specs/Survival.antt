-- A full stripe gives its blocks, whatever stands where it is wrong.
use Rattle.std.specs.Prelude.{◌≡◌, ◌⊎◌, ℕ, ◌+◌, ◌<◌, ◌≤◌, true, false, List, [], ◌∷◌, length, slice_index, None, Some, IsSome, IfSome}
use Rattle.btr_chunk.specs.Chunk.{mirrors}
use Rattle.btr_chunk.specs.Mapping.{HasPart}
use Rattle.btr_chunk.specs.declared.place.Part.{Part}
use Rattle.btr_parity.specs.Slices.{IsSlice}
use Rattle.btr_read.specs.Candidates.{Target, size_of}
use Rattle.btr_read.specs.Want.{passes}
use Rattle.btr_chunk.specs.declared.place.Part.TheVariants as part
use Rattle.btr_scrub_copies.specs.Blocks.{accepted}
use Rattle.btr_scrub_row.specs.Wanted.{new_bytes, wrong_parts}
use Rattle.btr_read.specs.Fate.{is_plain}
pub use Rattle.btr_scrub.specs.Devices.{HaveLengths}
use Rattle.btr_read.specs.Layout.{Layout}
use Rattle.btr_scrub.specs.BlocksInRows.{In, IsInRow, LiesInRow}
use Rattle.btr_scrub.specs.Columns.{HasFewWrong, HasFewWrongAt, HasRightPlace, IsRight, IsRightIn, IsWrongAt, right_for}
use Rattle.btr_scrub.specs.Right.{AreBytes, Committed, StandsFor}
use Rattle.btr_scrub_row.specs.Rows.{Row, blocks_at, differs, element, is_decided, range_in_element}
use Rattle.btr_scrub_copies.specs.Writes.{Images}

-- blocks of a slice, each of which begins at or behind the end of the one before
abbrev pub AreBehind : ℕ → List Target → Type 0
AreBehind end [] = Unit {0}
AreBehind end (t ∷ ts) = (end ≤ t.at.rest) × AreBehind (t.at.rest + size_of t) ts

-- a block lies in the row, has committed bytes if it is a checked one, and as many right bytes as it should
pub record IsSoundBlock (images : Images) (layout : Layout) (C : Committed) (row : Row) (t : Target) : Type 0 where
  pub in_row : IsInRow t
  pub lies : LiesInRow layout row t
  pub committed : is_plain t.want ≡ false → IsSome (C t.want)
  pub bytes : IfSome (right_for images C row t) (IsSlice (size_of t))

-- a full stripe: its elements stand, and its blocks are apart and sound
pub record IsSoundRow (images : Images) (layout : Layout) (C : Committed) (row : Row) : Type 0 where
  pub parity : mirrors row.chunk ≡ None
  pub blocks : (t : Target) → In t row.blocks → IsSoundBlock images layout C row t
  pub spaced : (i : ℕ) → AreBehind 0 (blocks_at row i)
  pub stand : (part : Part) → HasPart row.chunk.profile (length row.chunk.stripes) part → IsSome (range_in_element layout row part 0 65536)
  pub bytes : (part : Part) → HasPart row.chunk.profile (length row.chunk.stripes) part → IsSlice 65536 (element images layout row part)

-- committed bytes pass
abbrev pub RightPasses : Committed → Target → Type 0
RightPasses C t = IfSome (C t.want) (λ bytes. passes t.setting t.want bytes ≡ true)

-- the bytes of its elements that aren't wrong stay as they are
pub record KeepsRight (images left : Images) (layout : Layout) (C : Committed) (row : Row) : Type 0 where
  pub lengths : (part : Part) → HasPart row.chunk.profile (length row.chunk.stripes) part
      → length (element left layout row part) ≡ length (element images layout row part)
  pub bytes : (part : Part) (place : ℕ) → HasPart row.chunk.profile (length row.chunk.stripes) part → place < 65536
      → ¬ (IsWrongAt images layout C row part place)
      → slice_index (element left layout row part) place ≡ slice_index (element images layout row part) place

-- then each checked block of the row that is right at its own place, or where few elements are wrong, has a candidate with
-- its committed bytes, whatever stands in the wrong bytes
abbrev pub RowSurvives : Type 0
RowSurvives = (images left : Images) (layout : Layout) (C : Committed) (row : Row) (t : Target)
    → IsSoundRow images layout C row → RightPasses C t → HasRightPlace images C t ⊎ HasFewWrongAt images layout C row t
    → KeepsRight images left layout C row → In t row.blocks → is_plain t.want ≡ false → StandsFor left C t

-- where few elements are wrong at all, few are where a block lies
abbrev pub FewAreFewAt : Type 0
FewAreFewAt = (images : Images) (layout : Layout) (C : Committed) (row : Row) (t : Target)
    → IsSoundRow images layout C row → ((u : Target) → In u row.blocks → RightPasses C u)
    → HasFewWrong images layout C row → HasFewWrongAt images layout C row t

-- an element that stands has 65536 bytes
abbrev pub ElementsAreSlices : Type 0
ElementsAreSlices = (images : Images) (layout : Layout) (row : Row) (part : Part) → AreBytes images → HaveLengths images layout
    → IsSome (range_in_element layout row part 0 65536) → IsSlice 65536 (element images layout row part)

-- what is accepted for a block is committed, where there is any
abbrev pub AcceptsRight : Images → Committed → Target → Type 0
AcceptsRight images C t = IfSome (accepted images t) (λ bytes. C t.want ≡ Some bytes)

-- what a block of a row gets is right, where it gets any
abbrev pub GetsRight : Images → Committed → Row → Target → Type 0
GetsRight images C row t = IfSome (new_bytes images row.failing t) (λ bytes. right_for images C row t ≡ Some bytes)

-- a block at whose own place something is wrong lies in an element that is wrong
abbrev pub BadBlockIsWrong : Type 0
BadBlockIsWrong = (images : Images) (layout : Layout) (C : Committed) (row : Row) (t : Target)
    → IsSoundRow images layout C row → In t row.blocks → RightPasses C t
    → In (part.Slice t.at.index) (wrong_parts images row.failing t) → ¬ (IsRight images layout C row (part.Slice t.at.index))

-- a part is a parity
abbrev pub IsParity : Part → Type 0
IsParity (part.Mirror i) = ⊥
IsParity (part.Slice i) = ⊥
IsParity part.P = Unit {0}
IsParity part.Q = Unit {0}

-- a parity that differs from that of the new data in a decided column isn't right there
abbrev pub DifferingParityIsWrong : Type 0
DifferingParityIsWrong = (images : Images) (layout : Layout) (C : Committed) (row : Row) (part : Part) (column : ℕ)
    → IsSoundRow images layout C row → ((t : Target) → In t row.blocks → GetsRight images C row t)
    → IsParity part → column < 16
    → is_decided images layout row column ≡ true → differs images layout row part column ≡ true → ¬ (IsRightIn images layout C row column part)
