-- What comes of one block, and of the first blocks of a row; plain sectors are among them.
use Rattle.std.specs.Prelude.{◌≡◌, ℕ, ◌+◌, ◌*◌, ◌≤◌, ◌<◌, ◌&&◌, ◌||◌, Bool, false, not, List, length, nat_lt, slice_index_or, Some, None, IsSome, Ok}
use Rattle.std.specs.Prelude.{count_by, ◌==◌, if◌then◌else◌}
use Rattle.std.specs.List.{filter, fold, list_any, sum_by}
use Rattle.std.specs.Option.{option_map_or}
use Rattle.btr_chunk.specs.Chunk.{IsChunk, mirrors}
use Rattle.btr_chunk.specs.Mapping.{IsPosition}
use Rattle.btr_chunk.specs.declared.place.Part.TheVariants.{Slice}
use Rattle.btr_rack.specs.Rack.{pasted}
use Rattle.btr_read.specs.Candidates as candidates
use Rattle.btr_read.specs.Candidates.{Target, range_of, size_of}
use Rattle.btr_read.specs.Fate.{sought}
use Rattle.btr_read.specs.Layout.{Layout}
use Rattle.btr_read.specs.declared.want.Want.{Want}
use Rattle.btr_scrub_copies.specs.Writes.{Images}
use Rattle.btr_scrub_row.specs.Wanted.{new_bytes, is_checked, is_lost_block, mending_writes, wrong_parts}
use Rattle.btr_scrub_row.specs.Rows.{Row, element, is_sure, meets, slice_count, with_block}
use Rattle.btr_scrub_row.specs.Mending.{IsOn}
use Rattle.btr_scrub_row.specs.Memory.{HoldsRow, IsPiece, IsStripeOf, IsWantedRow, KnowsDoubts, element_in}
use Rattle.btr_scrub_row.specs.declared.judged.Judged.{Judged}
use Rattle.btr_scrub_row.specs.declared.judging.Verdict.{Verdict}
use Rattle.btr_scrub_row.specs.declared.row_view.RowView.{RowView}
use Rattle.btr_scrub_row.specs.declared.settling.Settled.{Settled}
use Rattle.btr_scrub_row.specs.declared.shape.Shape.{Shape}
use Rattle.btr_scrub_row.specs.declared.slice_piece.SlicePiece.{SlicePiece}
use Rattle.btr_scrub_row.specs.declared.stripe.FullStripe.{FullStripe}

-- a want's block lies in a full stripe
pub record IsIn (layout : Layout) (stripe : FullStripe) (want : Want) : Type 0 where
  pub target : Target
  pub is_sought : sought layout want ≡ Ok target
  pub row : Row
  pub of : IsStripeOf layout stripe row
  pub on : IsOn row target

-- a block's piece of a slice, in a chunk that keeps the rule
pub record IsPlaced (shape : Shape) (t : Target) (piece : SlicePiece) : Type 0 where
  pub shape_is : piece.shape ≡ shape
  pub index : piece.index ≡ t.at.index
  pub rest : piece.rest ≡ t.at.rest
  pub len : piece.len ≡ size_of t
  pub keeps_rule : IsChunk t.chunk
  pub position : IsPosition t.chunk t.at
  pub inside : t.at.rest + size_of t ≤ 65536

-- what comes of a block by what it gets, and whether its slice is surer than others
pub record IsVerdict (checked : Bool) (settled : Settled) (surer : Bool) (piece : SlicePiece) (verdict : Verdict) : Type 0 where
  pub piece_is : verdict.piece ≡ piece
  pub checked_is : verdict.checked ≡ checked
  pub good : verdict.good ≡ settled.good
  pub given_is : verdict.given ≡ settled.given
  pub sure : verdict.sure ≡ (settled.given || not checked && surer)

-- what comes of a block, and of the new data
pub record FitsVerdict (images : Images) (layout : Layout) (row : Row) (t : Target) (old new : List ℕ) (verdict : Verdict) : Type 0 where
  pub parity : mirrors t.chunk ≡ None
  pub index : t.at.index < candidates.slice_count t
  pub inside : t.at.rest + size_of t ≤ 65536
  pub stand : IsSome (range_of t (Slice t.at.index))
  pub long : (bytes : List ℕ) → new_bytes images row.failing t ≡ Some bytes → length bytes ≡ size_of t
  pub piece : IsPiece t verdict.piece
  pub checked : verdict.checked ≡ is_checked t
  pub wrong : length (wrong_parts images row.failing t) ≡ (if not verdict.good then 1 else 0)
  pub mends : length (mending_writes images row.failing t) ≡ (if not verdict.good && verdict.given then 1 else 0)
  pub lost : is_lost_block images t ≡ (verdict.checked && not verdict.given)
  pub sure : verdict.sure ≡ is_sure images layout row t
  pub pasted_is : new ≡ option_map_or (pasted old (t.at.index * 65536 + t.at.rest)) (new_bytes images row.failing t) old

-- what comes of a wanted block of a row in memory
abbrev pub JudgesBlock : RowView → Want → List ℕ → List ℕ → Verdict → Type 0
JudgesBlock view want old new verdict =
    (images : Images) (row : Row) (t : Target) → IsStripeOf view.store.now.layout view.wanted.stripe row
    → KnowsDoubts view.store.now.layout row view.wanted.doubts → HoldsRow images view.store.now.layout row view.old.now
    → sought view.store.now.layout want ≡ Ok t → FitsVerdict images view.store.now.layout row t old new verdict

-- a column's flag
abbrev pub flag : List Bool → ℕ → Bool
flag flags column = slice_index_or flags column false

-- a block has bytes in a column
abbrev pub meets_piece : ℕ → SlicePiece → Bool
meets_piece column piece = nat_lt piece.rest (column * 4096 + 4096) && nat_lt (column * 4096) (piece.rest + piece.len)

-- one more block was counted
pub record CountsVerdict (old : Judged) (verdict : Verdict) (new : Judged) : Type 0 where
  pub bad : new.bad ≡ old.bad + (if not verdict.good then 1 else 0)
  pub blocks : new.blocks ≡ old.blocks + (if verdict.checked then 1 else 0)
  pub rebuilt : new.rebuilt ≡ old.rebuilt + (if not verdict.good && verdict.given then 1 else 0)
  pub lost : new.lost ≡ old.lost + (if verdict.checked && not verdict.given then 1 else 0)
  pub met : (column : ℕ) → column < 16 → slice_index_or new.met column false ≡ (slice_index_or old.met column false || meets_piece column verdict.piece)
  pub broken : (column : ℕ) → column < 16 → slice_index_or new.broken column false
      ≡ (slice_index_or old.broken column false || (not verdict.sure && meets_piece column verdict.piece))

-- what some blocks of a row come to: the new data, the counts, and the columns
pub record AreJudged (images : Images) (layout : Layout) (row : Row) (ts : List Target) (new : List ℕ) (judged : Judged) : Type 0 where
  pub slices : (i : ℕ) → i < slice_count row → element_in new i
      ≡ fold (with_block images layout (new_bytes images row.failing)) (element images layout row (Slice i)) (filter (λ t. t.at.index == i) ts)
  pub blocks : judged.blocks ≡ count_by is_checked ts
  pub bad : judged.bad ≡ sum_by (λ t. length (wrong_parts images row.failing t)) ts
  pub rebuilt : judged.rebuilt ≡ sum_by (λ t. length (mending_writes images row.failing t)) ts
  pub lost : judged.lost ≡ count_by (is_lost_block images) ts
  pub met : (column : ℕ) → column < 16 → slice_index_or judged.met column false ≡ list_any (meets column) ts
  pub broken : (column : ℕ) → column < 16 → slice_index_or judged.broken column false ≡ list_any (λ t. not (is_sure images layout row t) && meets column t) ts

-- the wanted blocks of a row in memory were judged
abbrev pub JudgesRow : RowView → List ℕ → Judged → Type 0
JudgesRow view new judged =
    (images : Images) (row : Row) → IsWantedRow view.store.now.layout view.wanted row → HoldsRow images view.store.now.layout row view.old.now
    → AreJudged images view.store.now.layout row row.blocks new judged
