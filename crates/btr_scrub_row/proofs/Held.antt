-- A row in memory has all that the candidates of its blocks read.
use Rattle.std.proofs.Common.{◌≡◌, ℕ, ◌+◌, ◌*◌, ◌<◌, ◌≤◌, List, length, slice_range, Ok, IsNone, IsOkAnd, IsSome, refl, sym, ap, ◌∙◌, subst, arith}
use Rattle.btr_scrub_row.proofs.Common.{FullStripe, HasParity, HasPart, HoldsRow, Images, IsInMemory, IsOn, IsSited, IsStripeOf, Layout, LiesAt, Parity}
use Rattle.btr_scrub_row.proofs.Common.{Part, Raid6, Row, Slice, SlicePiece, Target, Want, data_count, element, element_count, element_of, mirrors, parities}
use Rattle.btr_scrub_row.proofs.Common.{part_at, part_of, piece_in, range-range, range_of, same_Some, size_of, slice_count, sought, sought_of}
use Rattle.btr_read.specs.Candidates as candidates
use Rattle.btr_read.specs.Want.{len_of}
use Rattle.btr_scrub_row.specs.Memory.{FitsIn, IsPieceOf, IsViewed}
use Rattle.btr_scrub_row.specs.Judging.{IsIn, IsPlaced}
use Rattle.btr_scrub_row.specs.declared.row_view.RowView.{RowView}
use Rattle.btr_scrub_row.proofs.Elements.{Lies, block_bytes, block_lies, its_element, lies}
use Rattle.btr_scrub_row.proofs.Shapes.{part_slice, row_counted, parity_at}
use Rattle.btr_scrub_copies.proofs.Copied.{same_target}
use Rattle.btr_read.specs.declared.parity.Parity.TheVariants as parity
use Rattle.btr_scrub_row.proofs.Parts.{parity_there}

-- a block that lies in the row of a number of a chunk lies in each that is so called
pub on_row : (layout : Layout) (stripe : FullStripe) (want : Want) (row : Row) (t : Target) → IsIn layout stripe want → IsStripeOf layout stripe row
    → sought layout want ≡ Ok t → IsOn row t
on_row layout stripe want row t within of e =
    let same : within.target ≡ t = same_target (sought layout want) within.target t within.is_sought e in
    let chunk : within.row.chunk ≡ row.chunk = same_Some within.row.chunk row.chunk (sym within.of.is.chunk ∙ of.is.chunk) in
    record {
      chunk = ap (λ (u : Target). u.chunk) (sym same) ∙ within.on.chunk ∙ chunk;
      number = ap (λ (u : Target). u.at.row) (sym same) ∙ within.on.number ∙ within.of.is.number_is ∙ sym of.is.number_is;
    }

-- a wanted block of a row, with its piece of a slice
pub record IsBlock (layout : Layout) (stripe : FullStripe) (row : Row) (want : Want) (t : Target) (piece : SlicePiece) : Type 0 where
  pub of : IsStripeOf layout stripe row
  pub is_sought : sought layout want ≡ Ok t
  pub on : IsOn row t
  pub placed : IsPlaced stripe.shape t piece

-- the piece was computed for the block
pub is_block : {layout : Layout} {stripe : FullStripe} {row : Row} {want : Want} {t : Target} {piece : SlicePiece} → IsIn layout stripe want
    → IsStripeOf layout stripe row → sought layout want ≡ Ok t → ((t : Target) → sought layout want ≡ Ok t → IsPlaced stripe.shape t piece)
    → IsBlock layout stripe row want t piece
is_block {layout = layout} {stripe = stripe} {row = row} {want = want} {t = t} within of e at =
    record { of = of; is_sought = e; on = on_row layout stripe want row t within of e; placed = at t e }

module _ {layout : Layout} {stripe : FullStripe} {row : Row} {want : Want} {t : Target} {piece : SlicePiece} (b : IsBlock layout stripe row want t piece) where
  slices_are : slice_count row ≡ candidates.slice_count t
  slices_are = ap (λ c. data_count c.profile (length c.stripes)) (sym b.on.chunk)

  -- the piece's row has as many slices
  piece_slices : piece.shape.slices ≡ slice_count row
  piece_slices = ap (λ s. s.slices) b.placed.shape_is ∙ b.of.shape.slices

  -- a part of the block's chunk is a part of the row
  has_in_row : (q : Part) → HasPart t.chunk.profile (length t.chunk.stripes) q → HasPart row.chunk.profile (length row.chunk.stripes) q
  has_in_row q has = subst (λ c. HasPart c.profile (length c.stripes) q) b.on.chunk has

  where_it : (q : Part) → HasPart row.chunk.profile (length row.chunk.stripes) q → Lies layout row q
  where_it q has = lies (its_element b.of q has)

  -- the devices of the block are those that are given
  devices_are : t.devices ≡ layout.devices
  devices_are = let is = sought_of layout want t b.is_sought in is.devices_is

  -- the block stands in each part
  pub block_stands : (q : Part) → HasPart t.chunk.profile (length t.chunk.stripes) q → IsSome (range_of t q)
  block_stands q has = subst IsSome (sym (block_lies (its_element b.of q (has_in_row q has)) (where_it q (has_in_row q has)) t b.on devices_are
      b.placed.position b.placed.inside)) refl

  -- a piece in memory
  piece_held : (images : Images) (bytes : List ℕ) (n : ℕ) (q : Part) → HoldsRow images layout row bytes → n < element_count row
      → part_at (slice_count row) n ≡ q → HasPart row.chunk.profile (length row.chunk.stripes) q
      → piece_in bytes piece n ≡ candidates.element images t q
  piece_held images bytes n q holds lt is has =
      ap (λ r. slice_range bytes (n * 65536 + r) (n * 65536 + r + piece.len)) b.placed.rest
      ∙ ap (λ m. slice_range bytes (n * 65536 + t.at.rest) (n * 65536 + t.at.rest + m)) b.placed.len
      ∙ ap (λ end. slice_range bytes (n * 65536 + t.at.rest) end) (omega arith)
      ∙ sym (range-range bytes (n * 65536) 65536 t.at.rest (t.at.rest + size_of t) (omega arith) b.placed.inside)
      ∙ ap (λ xs. slice_range xs t.at.rest (t.at.rest + size_of t)) (holds.elements n lt ∙ ap (element images layout row) is)
      ∙ sym (block_bytes (its_element b.of q has) (where_it q has) images t b.on devices_are b.placed.position b.placed.inside)

  -- its place in the row
  pub sited : IsSited piece t
  sited = record {
    place = record {
      slices = piece_slices ∙ slices_are;
      profile = ap (λ s. s.profile) b.placed.shape_is ∙ b.of.shape.profile ∙ ap (λ c. c.profile) (sym b.on.chunk);
      index = b.placed.index;
      rest = b.placed.rest;
      len = b.placed.len;
    };
    keeps_rule = b.placed.keeps_rule;
    position = b.placed.position;
    parity = ap mirrors b.on.chunk ∙ b.of.is.parity;
  }

  -- it lies in the row at its piece
  pub lies_at : LiesAt layout row t piece
  lies_at = record { on = b.on; devices = devices_are; sited = sited; stand = block_stands }

  -- all that its candidates read is in memory where the row is
  pub held : (images : Images) (bytes : List ℕ) → HoldsRow images layout row bytes → IsInMemory images t piece bytes
  held images bytes holds =
      let no_copies : IsNone (mirrors row.chunk) = subst IsNone (sym b.of.is.parity) refl in
      record {
        place = sited.place;
        block = record {
          keeps_rule = b.placed.keeps_rule;
          position = b.placed.position;
          parity = sited.parity;
          stand = block_stands;
          slices = λ i lt.
              let below : i < slice_count row = omega (arith, lt, slices_are) in
              piece_held images bytes i (Slice i) holds (omega (arith, below)) (part_slice (slice_count row) i below) (no_copies, below);
          p = parity_held parity.P tt;
          q = parity_held parity.Q;
        };
      }
    where
      parity_held : (p : Parity) → HasParity t.chunk.profile p → piece_in bytes piece (element_of p (candidates.slice_count t))
          ≡ candidates.element images t (part_of p)
      parity_held p has =
          let has' = subst (λ c. HasParity c.profile p) b.on.chunk has in
          let at = parity_at row b.of.is.parity b.of.keeps_rule p has' in
          ap (λ n. piece_in bytes piece (element_of p n)) (sym slices_are)
          ∙ piece_held images bytes (element_of p (slice_count row)) (part_of p) holds at.0 at.1
          (parity_there layout stripe row b.of p (subst (λ q. HasParity q p) (sym b.of.shape.profile) has'))

  -- and it lies in memory
  pub fits_in : (bytes : List ℕ) → length row.chunk.stripes * 65536 ≤ length bytes → FitsIn bytes piece
  fits_in bytes room =
      let count = row_counted row b.of.is.parity b.of.keeps_rule in
      let few : length row.chunk.stripes ≤ 64 = b.of.keeps_rule.few in
      record {
        few = omega (arith, piece_slices, count.whole, count.few, few);
        index = omega (arith, piece_slices, slices_are, b.placed.index, b.placed.position.index);
        inside = omega (arith, b.placed.rest, b.placed.len, b.placed.inside);
        p = omega (arith, piece_slices, count.whole, count.few, room);
        q = λ six.
            let six' : row.chunk.profile ≡ Raid6 = sym b.of.shape.profile ∙ ap (λ s. s.profile) (sym b.placed.shape_is) ∙ six in
            let two : length (parities row.chunk.profile) ≡ 2 = ap (λ p. length (parities p)) six' in
            omega (arith, piece_slices, count.whole, two, room);
      }

-- the place that was computed for a block of a row that was read
pub piece_is : (view : RowView) → IsViewed view → (want : Want) → IsIn view.store.now.layout view.wanted.stripe want → (piece : SlicePiece)
    → ((t : Target) → sought view.store.now.layout want ≡ Ok t → IsPlaced view.wanted.stripe.shape t piece) → IsPieceOf view want piece
piece_is view viewed want w piece at =
    let layout = view.store.now.layout in
    let b : IsBlock layout view.wanted.stripe w.row want w.target piece =
    record { of = w.of; is_sought = w.is_sought; on = w.on; placed = at w.target w.is_sought } in
    let is = sought_of layout want w.target w.is_sought in
    record {
      within = fits_in b view.old.now (viewed.room w.row w.of);
      placed = subst (λ r. IsOkAnd r (IsSited piece)) (sym w.is_sought) (sited b);
      len = b.placed.len ∙ ap (λ s. len_of s w.target.want) is.setting_is ∙ ap (len_of layout.setting) is.want_is;
    }
