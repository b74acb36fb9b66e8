-- The writes that mend a row, where the images are told.
use Rattle.std.specs.Prelude.{◌≡◌, ℕ, ◌+◌, ◌<◌, ◌≤◌, ◌^◌, ◌&&◌, Bool, not, false, List, [], ◌∷◌, length, slice_index_or, take, Option, None, IfSome, Result}
use Rattle.std.specs.Prelude.{Ok, if◌then◌else◌}
use Rattle.std.specs.List.{cons_option, flat_map}
use Rattle.std.specs.Option.{option_map_or}
use Rattle.btr_read.specs.Gathering.{part_of}
use Rattle.btr_chunk.specs.declared.place.Part.{Part}
use Rattle.btr_rack.specs.Rack.{Seen, len_of, range_in}
use Rattle.btr_rack.specs.declared.place.Place.{Place as Range}
use Rattle.btr_read.specs.Candidates.{Target}
use Rattle.btr_read.specs.Fate.{sought}
use Rattle.btr_read.specs.Layout.{AreOpen, Layout}
use Rattle.btr_read.specs.declared.want.Want.{Want}
use Rattle.btr_scrub_copies.specs.Writes.{AreWritable, DoesWrites, Images, Write}
use Rattle.btr_scrub_row.specs.Wanted.{new_bytes, mending_writes}
use Rattle.btr_scrub_copies.specs.declared.mended.MendFault.{MendFault}
use Rattle.btr_scrub_row.specs.Mending.{IsOfRow}
use Rattle.btr_scrub_row.specs.Rows.{Row, differs, element, element_with, is_decided, sector_write, slice_count}
use Rattle.btr_scrub_row.specs.declared.judged.Judged.{Judged}
use Rattle.btr_read.specs.declared.parity.Parity.{Parity}
use Rattle.btr_scrub_row.specs.declared.row_view.RowView.{RowView}
use Rattle.btr_scrub_row.specs.Memory.{HoldsRow, IsStripeOf, IsWantedRow, KnowsDoubts, element_in, element_of}

-- the images of a filesystem are open for writing, and there is a mark for each slot
pub record CanWrite (layout : Layout) (rack : Seen) (marks : List Bool) : Type 0 where
  pub are_open : AreOpen rack.slots layout.devices
  pub writable : AreWritable rack.slots
  pub slots : length rack.slots ≤ length marks

-- so many bytes can be written in an element, from a byte of it on
pub record CanWriteIn (element : Range) (rest len : ℕ) (rack : Seen) (marks : List Bool) : Type 0 where
  pub is_open : element.slot < length rack.slots
  pub writable : AreWritable rack.slots
  pub slots : length rack.slots ≤ length marks
  pub within : element.off + rest + len ≤ len_of rack.slots element.slot
  pub small : element.off + rest < 2 ^ 64

-- bytes from an offset on in a slot
abbrev pub write_at : ℕ → ℕ → List ℕ → Write
write_at slot off bytes = record { range = range_in slot off (length bytes); bytes = bytes }

-- the writes that follow from the images as they were told, and none where they weren't
abbrev pub told_writes : (Images → List Write) → Option Images → List Write
told_writes writes told = option_map_or writes told []

-- what is known of the images as they were when the row was read; where they weren't told they aren't now
pub record AreTold (Known : Images → Type 0) (told held : Option Images) : Type 0 where
  pub known : IfSome told Known
  pub untold : told ≡ None → held ≡ None

-- where they were told, the row is in memory
abbrev pub TellsHeldRow : Layout → Row → List ℕ → Option Images → Option Images → Type 0
TellsHeldRow layout row bytes told held = AreTold (λ images. HoldsRow images layout row bytes) told held

-- what is known of a parity: its element as it was read, that of the new data, and which columns are decided
pub record KnowsParity (images : Images) (layout : Layout) (row : Row) (parity : Parity) (judged : Judged) (old sums : List ℕ) : Type 0 where
  pub old_is : element_in old (element_of parity (slice_count row)) ≡ element images layout row (part_of parity)
  pub new_is : take 65536 sums ≡ element_with images layout (new_bytes images row.failing) row (part_of parity)
  pub decided : (column : ℕ) → column < 16 → (slice_index_or judged.met column false && not (slice_index_or judged.broken column false))
      ≡ is_decided images layout row column

-- a parity is wrong in a column: it is decided, and the parity differs there
abbrev pub is_wrong : Images → Layout → Row → Part → ℕ → Bool
is_wrong images layout row part column = is_decided images layout row column && differs images layout row part column

-- the write that mends a parity in a column, if it is to be mended there
abbrev pub column_writes : Layout → Row → Part → Images → ℕ → List Write
column_writes layout row part images column = if is_wrong images layout row part column then cons_option (sector_write images layout row part column) [] else []

-- ---- what was written, with the slots that were marked

-- bytes, from an offset on in a slot, in whichever row's element they lie
abbrev pub WritesBytes : {A : Type 0} → ℕ → ℕ → List ℕ → List Bool → List Bool → Seen → Seen → Result A MendFault → Type 0
WritesBytes slot off bytes marks marks' old new result =
    (layout : Layout) (row : Row) → IsOfRow layout row (range_in slot off (length bytes))
    → DoesWrites (IsOfRow layout row) (λ images. write_at slot off bytes ∷ []) marks marks' old new result

-- what mends a wanted block of a row, whose bytes as it was read are given
abbrev pub WritesBlock : {A : Type 0} → RowView → Want → List Bool → List Bool → Seen → Seen → Result A MendFault → Type 0
WritesBlock view want marks marks' old new result =
    (told : Option Images) (row : Row) (t : Target) → IsStripeOf view.store.now.layout view.wanted.stripe row
    → KnowsDoubts view.store.now.layout row view.wanted.doubts → TellsHeldRow view.store.now.layout row view.old.now told old.held
    → sought view.store.now.layout want ≡ Ok t
    → DoesWrites (IsOfRow view.store.now.layout row) (λ images. told_writes (λ images. mending_writes images row.failing t) told) marks marks' old new result

-- what mends all wanted blocks of a row, whose bytes as they were read are given
abbrev pub WritesBlocks : {A : Type 0} → RowView → List Bool → List Bool → Seen → Seen → Result A MendFault → Type 0
WritesBlocks view marks marks' old new result =
    (told : Option Images) (row : Row) → IsWantedRow view.store.now.layout view.wanted row → TellsHeldRow view.store.now.layout row view.old.now told old.held
    → DoesWrites (IsOfRow view.store.now.layout row) (λ images. told_writes (λ images. flat_map (mending_writes images row.failing) row.blocks) told)
    marks marks' old new result
