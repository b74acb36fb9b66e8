-- Full stripes as they should be, and their columns: what is wrong in each, and how much of it a block meets.
use Rattle.std.specs.Prelude.{◌≡◌, ℕ, ◌+◌, ◌*◌, ◌<◌, ◌≤◌, true, List, length, Option, Some, if◌then◌else◌}
use Rattle.std.specs.List.{Any, Contains}
use Rattle.btr_chunk.specs.Mapping.{HasPart}
use Rattle.btr_chunk.specs.declared.place.Part.{Part}
use Rattle.btr_chunk.specs.declared.place.Part.TheVariants.{Mirror, Slice, P, Q}
use Rattle.btr_read.specs.Candidates.{Target, size_of}
use Rattle.btr_read.specs.Candidates as read
use Rattle.btr_read.specs.Fate.{is_plain}
use Rattle.btr_read.specs.Layout.{Layout}
use Rattle.btr_read.specs.declared.want.Want.{Want}
use Rattle.btr_scrub_copies.specs.Blocks.{own_parts}
use Rattle.btr_scrub_copies.specs.Writes.{Images, In}
use Rattle.btr_scrub_row.specs.Rows.{Row, column_of, element, element_with, meets, parities}
use Rattle.btr_scrub_row.specs.Wanted.{new_bytes, wrong_parts}

-- the committed bytes of wants, where there are any
abbrev pub Committed : Type 0
Committed = Want → Option (List ℕ)

-- the bytes that a full stripe should have for a block of it: the committed ones of a checked block, and those that a plain
-- sector gets
abbrev pub right_for : Images → Committed → Row → Target → Option (List ℕ)
right_for images C row t = if is_plain t.want then new_bytes images row.failing t else C t.want

-- a block has its committed bytes at a place of its own
abbrev pub HasRightPlace : Images → Committed → Target → Type 0
HasRightPlace images C t = Any (λ part. C t.want ≡ Some (read.element images t part)) (own_parts t)

module _ (images : Images) (layout : Layout) (C : Committed) (row : Row) where
  -- a full stripe as it should be: the right bytes of its blocks, the image's bytes elsewhere, and their parities
  abbrev pub right_element : Part → List ℕ
  right_element part = element_with images layout (right_for images C row) row part

  -- an element of it is as it should be
  abbrev pub IsRight : Part → Type 0
  IsRight part = element images layout row part ≡ right_element part

  -- an element is as it should be in a column
  abbrev pub IsRightIn : ℕ → Part → Type 0
  IsRightIn column part = column_of column (element images layout row part) ≡ column_of column (right_element part)

  -- an element is sound in a column: it is right there, and meets there no bad block and no stale plain sector, which is
  -- written whole
  pub record IsSoundIn (column : ℕ) (part : Part) : Type 0 where
    pub right : IsRightIn column part
    pub good : (t : Target) → In t row.blocks → meets column t ≡ true → ¬ (In part (wrong_parts images row.failing t))

  -- few elements are wrong where a block lies: but for as many at most as there is parity, each is sound in each of the
  -- columns that the block meets
  pub record HasFewWrongAt (t : Target) : Type 0 where
    pub wrong : List Part
    pub few : length wrong ≤ length (parities row.chunk.profile)
    pub others : (part : Part) (column : ℕ) → HasPart row.chunk.profile (length row.chunk.stripes) part → ¬ (Contains wrong part)
        → meets column t ≡ true → IsSoundIn column part

  -- few elements are wrong at all: but for as many at most as there is parity, each is right
  pub record HasFewWrong : Type 0 where
    pub wrong : List Part
    pub few : length wrong ≤ length (parities row.chunk.profile)
    pub others : (part : Part) → HasPart row.chunk.profile (length row.chunk.stripes) part → ¬ (Contains wrong part) → IsRight part

  -- a byte of a slice, by its place there, is in a bad block or a stale plain sector
  pub record IsInBad (index place : ℕ) : Type 0 where
    pub block : Target
    pub among : In block row.blocks
    pub bad : In (Slice index) (wrong_parts images row.failing block)
    pub from : block.at.rest ≤ place
    pub to : place < block.at.rest + size_of block

  -- a byte of a parity is in a column where the parity isn't right
  pub record IsInWrongColumn (part : Part) (place : ℕ) : Type 0 where
    pub column : ℕ
    pub from : column * 4096 ≤ place
    pub to : place < column * 4096 + 4096
    pub wrong : ¬ (IsRightIn column part)

  -- a byte of an element is wrong: it is in such a block, or in such a column of a parity
  abbrev pub IsWrongAt : Part → ℕ → Type 0
  IsWrongAt (Mirror i) place = ⊥
  IsWrongAt (Slice i) place = IsInBad i place
  IsWrongAt P place = IsInWrongColumn P place
  IsWrongAt Q place = IsInWrongColumn Q place
