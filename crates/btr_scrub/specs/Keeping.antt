-- A full stripe whose mending was cut short: wherever it was, each of its blocks that could be had can be had still.
use Rattle.std.specs.Prelude.{◌≡◌, ◌⊎◌, ℕ, true, false, List, length, None, Some, IsSome}
use Rattle.std.specs.List.{Contains, list_any, fold}
use Rattle.btr_chunk.specs.Table.{IsTable}
use Rattle.btr_chunk.specs.declared.place.Part.TheVariants.{Slice}
use Rattle.btr_rack.specs.declared.place.Place.{Place as Range}
use Rattle.btr_read.specs.Candidates.{Target, candidates, ranges_of as ranges_read, size_of, stands, value_of}
use Rattle.btr_read.specs.Layout.{HaveOwnSlots, Layout}
use Rattle.btr_read.specs.Want.{passes}
use Rattle.btr_read.specs.declared.candidate.Candidate.{Candidate}
use Rattle.btr_read.specs.declared.want.Want.{Want}
use Rattle.btr_scrub_copies.specs.Blocks.{accepted, is_good}
use Rattle.btr_scrub_copies.specs.Writes.{AreAmong, Images, IsStopped, ranges_of, write_on}
use Rattle.btr_scrub_row.specs.Rows.{Row, parities_writes, rebuilt_writes}
use Rattle.btr_scrub.specs.Devices.{HaveLengths}
use Rattle.btr_scrub.specs.BlocksInRows.{In}
use Rattle.btr_scrub.specs.WrittenRanges.{KeepsOutside}
use Rattle.btr_scrub.specs.Order.{AreApart, targets}
use Rattle.btr_scrub.specs.Repair.{covers, first_missing}
use Rattle.btr_scrub.specs.Staying.{IsRowOf}

-- a block can be had: a candidate of it passes
abbrev pub IsHad : Images → Target → Type 0
IsHad images t = IsSome (accepted images t)

-- what is accepted for it is as long as it is
abbrev pub FillsPlace : Images → Target → Type 0
FillsPlace images t = (bytes : List ℕ) → accepted images t ≡ Some bytes → length bytes ≡ size_of t

-- a way to a block that passes, and reads nothing that is to be written for the blocks of its row
pub record HasWayBeside (images : Images) (layout : Layout) (row : Row) (t : Target) : Type 0 where
  pub way : Candidate
  pub there : In way (candidates t)
  pub stand : stands t way ≡ true
  pub pass : passes t.setting t.want (value_of images t way) ≡ true
  pub beside : (range : Range) (slot off : ℕ) → Contains (ranges_read t way) range → covers slot off range ≡ true
      → list_any (covers slot off) (ranges_of (rebuilt_writes images layout row)) ≡ false

-- a block passes at its own place, or has such a way
abbrev pub Withstands : Images → Layout → Row → Target → Type 0
Withstands images layout row t = (is_good images t (Slice t.at.index) ≡ true) ⊎ HasWayBeside images layout row t

-- a full stripe of a filesystem all of whose devices are given, with those of its blocks that lie in it
pub record IsRowAmong (images : Images) (layout : Layout) (wants : List Want) (row : Row) : Type 0 where
  pub table : IsTable layout.chunks
  pub own_slots : HaveOwnSlots layout.devices
  pub given : first_missing layout ≡ None
  pub lengths : HaveLengths images layout
  pub apart : AreApart layout 0 wants
  pub is_row : IsRowOf layout row.failing (targets layout wants) row

-- Where its blocks are being written, and none of that is known to be stored, each block that withstands it can be had,
-- whatever stands in the ranges that wait for a sync.
abbrev pub FirstTurnKeepsBlocks : Type 0
FirstTurnKeepsBlocks = (images left stored : Images) (layout : Layout) (wants : List Want) (row : Row) (own : List Range) (t : Target)
    → IsRowAmong images layout wants row
    → IsStopped (rebuilt_writes images layout row) images left → AreAmong own (ranges_of (rebuilt_writes images layout row)) → KeepsOutside own left stored
    → In t row.blocks → Withstands images layout row t → IsHad stored t

-- Where its blocks are stored, and its parities are being written, each block that could be had can be had at its own
-- place, whatever stands in the ranges that wait for a sync.
abbrev pub SecondTurnKeepsBlocks : Type 0
SecondTurnKeepsBlocks = (images left stored : Images) (layout : Layout) (wants : List Want) (row : Row) (own : List Range) (t : Target)
    → IsRowAmong images layout wants row
    → IsStopped (parities_writes images layout row) (fold write_on images (rebuilt_writes images layout row)) left
    → AreAmong own (ranges_of (parities_writes images layout row)) → KeepsOutside own left stored
    → In t row.blocks → IsHad images t → FillsPlace images t → is_good stored t (Slice t.at.index) ≡ true
