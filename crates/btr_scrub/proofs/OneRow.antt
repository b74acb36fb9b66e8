-- One full stripe of the table, as it was mended.
use Rattle.std.proofs.Common.{◌≡◌, ℕ, ◌+◌, ◌*◌, Bool, List, length, slice_get, Option, Some, None, IsSomeAnd, Result, Ok, Err, refl, sym, ap, ◌∙◌, inl, inr, []}
use Rattle.std.proofs.Common.{arith, false}
use Rattle.btr_scrub.proofs.Common.{Chunk, Elements, HasRooms, IsOfScrub, IsTable, Layout, LiesInChunk, LiesInStripe, MendFault, MendedRow, OnlyReads, Range}
use Rattle.btr_scrub.proofs.Common.{Row, Scrubs, Seen, StripePlace, Tally, Target, Want, addr_of, all_at, alone, chunk_at, counted_row, device_in, facts}
use Rattle.btr_scrub.proofs.Common.{flagged, holds, len_of, mended_row, place_at, placed_part, plain, range_in_element, row_writes, sought, sought_at}
use Rattle.btr_scrub.proofs.Common.{sought_in, stripe_of, writes_if}
use Rattle.btr_chunk.specs.Mapping.{elements_of}
use Rattle.btr_chunk.specs.declared.mapping.MapFault.{MapFault}
use Rattle.btr_chunk.specs.declared.mapping.MapFault.TheVariants as map_fault
use Rattle.btr_chunk.proofs.Rule.{data_count-some}
use Rattle.btr_read.specs.Cause.{LiesIn}
use Rattle.btr_scrub_copies.specs.Syncing.{IsSyncOr}
use Rattle.btr_scrub_row.specs.Mending.{HasRoom, IsFullStripe, IsOfRow, IsOn, IsRow, IsRowOf, MendsRow}
use Rattle.btr_scrub_row.specs.declared.buffer.RowBuffer.{RowBuffer}
use Rattle.btr_scrub_copies.proofs.Turning.{does_plain, strands_same}
use Rattle.btr_scrub.proofs.Positions.{find_at, lies_alone}
use Rattle.btr_scrub.proofs.Scrubbing.{does_fault, does_value, tell, told, waits_weaker}
use Rattle.btr_scrub.proofs.Lists.{all_from}
use Rattle.btr_scrub.proofs.Places.{on_device, in_stripe_of}

-- the number of its chunk
pub chunk_number : (layout : Layout) (start number : ℕ) (row : Row) → IsFullStripe layout start number row → (i : ℕ)
    × (slice_get layout.chunks i ≡ Some row.chunk)
chunk_number layout start number row is = let f = find_at (λ c. holds c start) layout.chunks row.chunk is.chunk in (f.0, f.1)

-- a buffer with room for each full stripe has it for this one
pub has_room : (layout : Layout) (buffer : RowBuffer) (start number : ℕ) (wants : List Want) (row : Row) → HasRooms layout buffer
    → IsRowOf layout start number wants row → HasRoom buffer (length row.chunk.stripes)
has_room layout buffer start number wants row rooms is = let n = chunk_number layout start number row is.stripe in rooms n.0 row.chunk n.1 is.stripe.parity

-- what was done for each row of some blocks, beside the images that are flagged, left the slots, and read only where nothing was to be written
pub row_left : (flags : List Bool) {layout : Layout} {start number : ℕ} {wants : List Want} {m n : List Bool} {write : Bool} {a b : Seen}
    {result : Result MendedRow MendFault} → IsRow layout start number wants → ((row : Row) → IsRowOf layout start number wants row → row.failing ≡ flagged flags
    → MendsRow layout row write m n a b result) → (b.slots ≡ a.slots) × (write ≡ false → OnlyReads a b)
row_left flags h mends =
    let r = h.row in
    let s = h.is.stripe in
    let row : Row = record { chunk = r.chunk; number = r.number; blocks = r.blocks; failing = flagged flags } in
    let done = mends row (record {
      stripe = record { chunk = s.chunk; number_is = s.number_is; parity = s.parity; inside = s.inside; stand = s.stand };
      blocks = h.is.blocks;
      lie = all_from (IsOn row) r.blocks (λ t i. let on = all_at (IsOn r) r.blocks t h.is.lie i in record { chunk = on.chunk; number = on.number });
    }) refl in
    (ap (λ (s : Seen). s.slots) done.does.only.same, done.unwritten)

-- a range in an element lies in a stripe of the row's chunk
pub row_in_stripe : (layout : Layout) (start number : ℕ) (row : Row) (range : Range) → IsTable layout.chunks → IsFullStripe layout start number row
    → IsOfRow layout row range → LiesInStripe (alone layout row.chunk) range
row_in_stripe layout start number row range table is of = lies_alone layout row.chunk range (by (range_in_element layout row of.part 0 65536) refl of.lies)
  where
    by : (o : Option Range) → range_in_element layout row of.part 0 65536 ≡ o → IsSomeAnd o (LiesIn range) → LiesInChunk layout row.chunk range
    by None e h = absurd h
    by (Some outer) e h =
        let n = chunk_number layout start number row is in
        let sound = (table.sound n.0 row.chunk n.1).0 in
        let at0 : Elements = record { row = row.number; index = 0; rest = 0 } in
        let p = placed_part row.chunk of.part at0 sound of.has (record {
          index = data_count-some row.chunk.profile (length row.chunk.stripes) (facts row.chunk sound).count;
          inside = omega (arith, is.inside, is.number_is);
        }) in
        let place = place_at row.chunk of.part at0 in
        let d = on_device place.offset 65536 (device_in layout.devices place.devid) outer e in
        let offset : place.offset ≡ p.stripe.offset + row.number * 65536 + 0 = ap (λ (x : StripePlace). x.offset) p.place in
        in_stripe_of layout row.chunk (stripe_of row.chunk.profile (length row.chunk.stripes) of.part at0) p.stripe d.device range p.there
        (ap (λ (x : StripePlace). device_in layout.devices x.devid) (sym p.place) ∙ d.there) (h.slot ∙ d.slot)
        (omega (arith, h.from, d.begin, offset)) (omega (arith, h.to, d.begin, d.long, offset, is.inside, is.number_is))

-- it was mended, and counted
module _ {layout : Layout} {start number : ℕ} {row : Row} (table : IsTable layout.chunks) (is : IsFullStripe layout start number row) where
  -- a call of the row is in the stripes of its chunk
  in_stripe : (range : Range) → IsOfRow layout row range → LiesInStripe (alone layout row.chunk) range
  in_stripe range of = row_in_stripe layout start number row range table is of

  -- so it is one of scrub's own
  in_scrub : (range : Range) → IsSyncOr (IsOfRow layout row) range → IsOfScrub (alone layout row.chunk) range
  in_scrub range (inl sync) = inl sync
  in_scrub range (inr of) = inr (in_stripe range of)

  -- it was mended to its end
  pub scrubs_row : {write : Bool} {m n : List Bool} {a b : Seen} {tally tally' : Tally} {mended : MendedRow} → MendsRow layout row write m n a b (Ok mended)
      → tally' ≡ counted_row tally mended → Scrubs {A = Unit {0}} (alone layout row.chunk) write (λ images. row_writes images layout row)
      (λ images tally. counted_row tally (mended_row images layout row write)) m n a b tally tally' (Ok (tt {0}))
  scrubs_row {write} {a = a} {b = b} {tally} {tally'} {mended} h e = record {
    does = does_value (IsOfScrub (alone layout row.chunk)) (λ images. writes_if write (row_writes images layout row)) [] [] (plain a) (plain b) mended tt
        (does_plain (IsSyncOr (IsOfRow layout row)) (IsOfScrub (alone layout row.chunk)) (λ images. writes_if write (row_writes images layout row)) [] []
        (plain a) (plain b) (Ok mended) in_scrub h.does);
    waits = waits_weaker (IsOfRow layout row) (LiesInStripe (alone layout row.chunk)) a a b (λ range i. i) in_stripe h.lie;
    marked = h.marked;
    stranded = h.stranded;
    counts = tell a.held (λ images. tally' ≡ counted_row tally (mended_row images layout row write))
        (λ images held. e ∙ ap (counted_row tally) (told a.held (λ images. mended ≡ mended_row images layout row write) images held h.counts));
    unwritten = h.unwritten;
  }

  -- or a call failed
  pub scrubs_row_not : {write : Bool} {m n : List Bool} {a b : Seen} {tally : Tally} {fault : MendFault} → MendsRow layout row write m n a b (Err fault)
      → Scrubs {A = Unit {0}} (alone layout row.chunk) write (λ images. row_writes images layout row)
      (λ images tally. counted_row tally (mended_row images layout row write)) m n a b tally tally (Err fault)
  scrubs_row_not {write} {a = a} {b = b} {fault = fault} h = record {
    does = does_fault {A = MendedRow} {B = Unit {0}} (IsOfScrub (alone layout row.chunk)) (λ images. writes_if write (row_writes images layout row)) [] []
        (plain a) (plain b) fault (does_plain {A = MendedRow} (IsSyncOr (IsOfRow layout row)) (IsOfScrub (alone layout row.chunk))
        (λ images. writes_if write (row_writes images layout row)) [] [] (plain a) (plain b) (Err fault) in_scrub h.does);
    waits = waits_weaker (IsOfRow layout row) (LiesInStripe (alone layout row.chunk)) a a b (λ range i. i) in_stripe h.lie;
    marked = h.marked;
    stranded = strands_same MendedRow (Unit {0}) fault a.never_synced b.never_synced h.stranded;
    counts = tt;
    unwritten = h.unwritten;
  }

-- the chunk of what is sought is the one that holds the address
pub chunk_of : (layout : Layout) (w : Want) (t : Target) → sought layout w ≡ Ok t → chunk_at layout.chunks (addr_of w) ≡ Some t.chunk
chunk_of layout w t e = by (chunk_at layout.chunks (addr_of w)) e
  where
    -- what is sought in a chunk has that chunk
    at : (chunk : Chunk) (r : Result Elements MapFault) → sought_at layout w chunk r ≡ Ok t → chunk ≡ t.chunk
    at chunk (Err map_fault.Unmapped) e = cc
    at chunk (Err map_fault.Crosses) e = cc
    at chunk (Ok p) e =
        let same : record { want = w; setting = layout.setting; chunk = chunk; at = p; devices = layout.devices } ≡ t = cc e in
        ap (λ (t : Target). t.chunk) same

    by : (o : Option Chunk) → sought_in layout w o ≡ Ok t → o ≡ Some t.chunk
    by None e = cc
    by (Some chunk) e = ap Some (at chunk (elements_of chunk (addr_of w) (len_of layout.setting w)) e)
