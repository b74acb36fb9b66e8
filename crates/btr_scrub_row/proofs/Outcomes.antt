-- What mending a row comes to.
use Rattle.std.proofs.Common.{◌≡◌, ℕ, Bool, true, false, cond, List, [], ◌++◌, length, Result, Some, Ok, Err, IsErrAnd, inr, sym, ap, ◌∙◌, subst}
use Rattle.btr_scrub_row.proofs.Common.{DoesWrites, FullStripe, Images, IsOfRow, IsPrepared, IsStripeOf, Judged, Layout, Range, Row, Seen, Write, false≢true}
use Rattle.btr_scrub_row.proofs.Common.{parity_count, same_Some, telling, told_writes}
use Rattle.btr_rack.specs.Rack.{NoneFailed, OnlyReads}
use Rattle.btr_read.proofs.ReadsOn.{same_held}
use Rattle.btr_read.proofs.Trials.{told}
use Rattle.btr_scrub_copies.specs.Syncing.{IsSyncOr, Strands, plain}
use Rattle.btr_scrub_copies.specs.Turns.{TakesTurns, WaitsInTurn}
use Rattle.btr_scrub_copies.specs.Writes.{AccountsMend, writes_if}
use Rattle.btr_scrub_copies.specs.declared.mended.MendFault.{MendFault}
use Rattle.btr_scrub_copies.proofs.Doing.{does_as, does_as_halt, does_failed, does_reads, passed}
use Rattle.btr_scrub_copies.proofs.Turning.{fails_plain, read_at, read_marked, read_stranded, read_waits, reads_plain, strands_same, turns_behind}
use Rattle.btr_scrub_row.specs.Rows.{parities_writes, rebuilt_writes, row_writes}
use Rattle.btr_scrub_row.specs.Mending.{CountsRow, HasRoom, MendsRow, mended_row}
use Rattle.btr_scrub_row.specs.Preparing.{TellsRow}
use Rattle.btr_scrub_row.specs.declared.buffer.RowBuffer.{RowBuffer}
use Rattle.btr_scrub_row.specs.declared.mended.MendedRow.{MendedRow}

-- a buffer that has room for a row has room for each that is so called
pub room_all : {layout : Layout} {stripe : FullStripe} {row row' : Row} {buffer : RowBuffer} → IsStripeOf layout stripe row
    → IsStripeOf layout stripe row' → HasRoom buffer (length row.chunk.stripes) → HasRoom buffer (length row'.chunk.stripes)
room_all {row = row} {row' = row'} {buffer = buffer} of of' room =
    let same : row.chunk ≡ row'.chunk = same_Some row.chunk row'.chunk (sym of.is.chunk ∙ of'.is.chunk) in
    subst (λ c. HasRoom buffer (length c.stripes)) same room

-- a row was read, and prepared in a buffer
pub record IsRead (layout : Layout) (row : Row) (judged : Judged) (buffer : RowBuffer) (a b : Seen) : Type 0 where
  pub reads : OnlyReads a b
  pub none : NoneFailed a.account b.account
  pub prepared : (images : Images) → a.held ≡ Some images → IsPrepared images layout row judged buffer

-- what was only read, with no failed read, and prepared where the images are told
pub is_read : {layout : Layout} {row : Row} {judged : Judged} {buffer : RowBuffer} {a b : Seen} → OnlyReads a b → NoneFailed a.account b.account
    → ((images : Images) → a.held ≡ Some images → IsPrepared images layout row judged buffer) → IsRead layout row judged buffer a b
is_read reads none prepared = record { reads = reads; none = none; prepared = prepared }

-- what came of a row by what was judged of its blocks
abbrev pub made : Judged → ℕ → ℕ → MendedRow
made judged repaired parity = record { blocks = judged.blocks; bad = judged.bad; repaired = repaired; lost = judged.lost; parity = parity }

-- the counts
counts_are : (layout : Layout) (row : Row) (write : Bool) (judged : Judged) (buffer : RowBuffer) (a b : Seen) (repaired parity : ℕ)
    → IsRead layout row judged buffer a b → ((images : Images) → a.held ≡ Some images → parity ≡ parity_count images layout row)
    → repaired ≡ cond write judged.rebuilt 0 → CountsRow a.held layout row write (Ok (made judged repaired parity))
counts_are layout row write judged buffer a b repaired parity read counted so =
    told a.held (λ images. made judged repaired parity ≡ mended_row images layout row write) (λ images e.
    let is = read.prepared images e in
    let r = so ∙ ap (λ n. cond write n 0) is.blocks.rebuilt in
    let p = counted images e in
    λ i. record { blocks = is.blocks.blocks i; bad = is.blocks.bad i; repaired = r i; lost = is.blocks.lost i; parity = p i })

-- calls of a row: syncs, and calls in its elements
abbrev call : Layout → Row → Range → Type 0
call layout row = IsSyncOr (IsOfRow layout row)

-- the writes of its blocks, those of its parities, and all, where it is to be written
abbrev rebuilt : Layout → Row → Bool → Images → List Write
rebuilt layout row write images = writes_if write (rebuilt_writes images layout row)

abbrev parities' : Layout → Row → Bool → Images → List Write
parities' layout row write images = writes_if write (parities_writes images layout row)

abbrev all : Layout → Row → Bool → Images → List Write
all layout row write images = writes_if write (row_writes images layout row)

-- those that are told
abbrev told_rebuilt : Layout → Row → Seen → List Write
told_rebuilt layout row rack = told_writes (λ images. rebuilt_writes images layout row) rack.held

abbrev told_parities : Layout → Row → Seen → List Write
told_parities layout row rack = told_writes (λ images. parities_writes images layout row) rack.held

-- the writes that were told are those that follow from the images
all_are : (layout : Layout) (row : Row) (write : Bool) (a : Seen) → write ≡ true → (images : Images) → a.held ≡ Some images
    → told_rebuilt layout row a ++ told_parities layout row a ≡ all layout row write images
all_are layout row write a written images e =
    ap (λ o. told_writes (λ images. rebuilt_writes images layout row) o ++ told_writes (λ images. parities_writes images layout row) o) e
    ∙ ap (λ w. writes_if w (row_writes images layout row)) (sym written)

module _ {layout : Layout} {row : Row} {write : Bool} {marks : List Bool} {a b : Seen} where
  -- where the row was only read, nothing more waits or is marked
  only_read : (r : Result MendedRow MendFault) → OnlyReads a b → DoesWrites (call layout row) (all layout row write) [] [] (plain a) (plain b) r
      → CountsRow a.held layout row write r → MendsRow layout row write marks marks a b r
  only_read r reads does counts = record {
    does = does;
    waits = told a.held (λ images. WaitsInTurn (rebuilt layout row write images) (parities' layout row write images) images a b)
        (λ images is. read_waits a b reads (rebuilt layout row write images) (parities' layout row write images) images is);
    lie = read_at a b reads (IsOfRow layout row);
    marked = read_marked a b reads marks;
    stranded = read_stranded a b reads r;
    counts = counts;
    unwritten = λ w. reads;
  }

  -- a read failed, and its fault is passed on
  pub mends_failed : {r : Result MendedRow MendFault} (fault : MendFault) → IsErrAnd r (λ e. e ≡ fault) → OnlyReads a b
      → AccountsMend {A = Judged} (IsOfRow layout row) a b (Err fault) → MendsRow layout row write marks marks a b r
  mends_failed {r = r} fault is reads account = passed (λ r. MendsRow layout row write marks marks a b r) r fault is (only_read (Err fault) reads
      (does_failed (call layout row) MendedRow Judged (all layout row write) [] (plain a) (plain b) fault (reads_plain a b reads)
      (fails_plain {A = Judged} (IsOfRow layout row) (call layout row) a b (Err fault) (λ range of. inr of) account)) tt)

  module _ {judged : Judged} {buffer : RowBuffer} (read : IsRead layout row judged buffer a b) where
    -- it was only to be read
    pub mends_read : write ≡ false → (parity : ℕ) → ((images : Images) → a.held ≡ Some images → parity ≡ parity_count images layout row)
        → MendsRow layout row write marks marks a b (Ok (made judged 0 parity))
    mends_read unwritten parity counted = only_read (Ok (made judged 0 parity)) read.reads
        (does_as (call layout row) (λ i. []) (all layout row write) [] [] (plain a) (plain b) (made judged 0 parity) (made judged 0 parity)
        (λ images e. ap (λ w. writes_if w (row_writes images layout row)) (sym unwritten))
        (does_reads (call layout row) [] (plain a) (plain b) (made judged 0 parity) (reads_plain a b read.reads) read.none))
        (counts_are layout row write judged buffer a b 0 parity read counted (ap (λ w. cond w judged.rebuilt 0) (sym unwritten)))

    module _ (written : write ≡ true) {marks' : List Bool} {d : Seen} where
      module _ (r : Result (Unit {0}) MendFault)
          (turns : TakesTurns (IsOfRow layout row) (told_rebuilt layout row a) (told_parities layout row a) marks marks' b d r) where
        -- the turns, with the reads before them
        behind : TakesTurns (IsOfRow layout row) (told_rebuilt layout row a) (told_parities layout row a) marks marks' a d r
        behind = turns_behind a b read.reads (IsOfRow layout row) (told_rebuilt layout row a) (told_parities layout row a) marks marks' d r read.none turns

        -- the turns that were told are those that follow from the images
        turns_are : (images : Images) → a.held ≡ Some images → WaitsInTurn (rebuilt layout row write images) (parities' layout row write images) images a d
        turns_are images is =
            subst (λ w. WaitsInTurn (writes_if w (rebuilt_writes images layout row)) (writes_if w (parities_writes images layout row)) images a d) (sym written)
            (subst (λ o. WaitsInTurn (told_writes (λ images. rebuilt_writes images layout row) o)
            (told_writes (λ images. parities_writes images layout row) o) images a d) is
            (telling a.held (λ images. WaitsInTurn (told_rebuilt layout row a) (told_parities layout row a) images a d) behind.waits images is))

        -- a row that was written in turns is mended, or up to a call that failed
        turned : (q : Result MendedRow MendFault) → DoesWrites (call layout row) (all layout row write) [] [] (plain a) (plain d) q
            → Strands a.never_synced d.never_synced q → CountsRow a.held layout row write q → MendsRow layout row write marks marks' a d q
        turned q does stranded counts = record {
          does = does;
          waits = told a.held (λ images. WaitsInTurn (rebuilt layout row write images) (parities' layout row write images) images a d) turns_are;
          lie = behind.lie;
          marked = behind.marked;
          stranded = stranded;
          counts = counts;
          unwritten = λ w. absurd (false≢true (sym w ∙ written));
        }

      -- it was written
      pub mends_wrote : (parity : ℕ) → ((images : Images) → a.held ≡ Some images → parity ≡ parity_count images layout row)
          → TakesTurns {A = Unit {0}} (IsOfRow layout row) (told_rebuilt layout row a) (told_parities layout row a) marks marks' b d (Ok tt)
          → MendsRow layout row write marks marks' a d (Ok (made judged judged.rebuilt parity))
      mends_wrote parity counted turns =
          let h = behind (Ok tt) turns in
          turned (Ok tt) turns (Ok (made judged judged.rebuilt parity))
          (does_as (call layout row) (λ i. told_rebuilt layout row a ++ told_parities layout row a) (all layout row write) [] [] (plain a) (plain d) tt
          (made judged judged.rebuilt parity) (all_are layout row write a written) h.does) h.stranded
          (counts_are layout row write judged buffer a b judged.rebuilt parity read counted (ap (λ w. cond w judged.rebuilt 0) (sym written)))

      -- it was written up to a call that failed, whose fault is passed on
      pub mends_cut : {q : Result MendedRow MendFault} (fault : MendFault) → IsErrAnd q (λ e. e ≡ fault)
          → TakesTurns {A = Unit {0}} (IsOfRow layout row) (told_rebuilt layout row a) (told_parities layout row a) marks marks' b d (Err fault)
          → MendsRow layout row write marks marks' a d q
      mends_cut {q = q} fault is turns =
          let h = behind (Err fault) turns in
          passed (λ q. MendsRow layout row write marks marks' a d q) q fault is (turned (Err fault) turns (Err fault)
          (does_as_halt (call layout row) (Unit {0}) MendedRow (λ i. told_rebuilt layout row a ++ told_parities layout row a) (all layout row write) [] []
          (plain a) (plain d) fault (all_are layout row write a written) h.does)
          (strands_same (Unit {0}) MendedRow fault a.never_synced d.never_synced h.stranded) tt)

-- what was prepared is what is told
pub tells_prepared : {layout : Layout} {row : Row} {judged : Judged} {buffer : RowBuffer} {a b : Seen} → IsRead layout row judged buffer a b
    → TellsRow layout row judged buffer a.held b.held
tells_prepared {layout = layout} {row = row} {judged = judged} {buffer = buffer} {a = a} read =
    record { known = told a.held (λ images. IsPrepared images layout row judged buffer) read.prepared; untold = λ e. same_held read.reads ∙ e }
