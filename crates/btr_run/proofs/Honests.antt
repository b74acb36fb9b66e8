-- What a command comes to that lists is its run, whole where the answer is that all was done.
use Rattle.std.proofs.Common.{◌≡◌, ℕ, List, Option, Some, None, Result, Ok, Err, refl, sym, ap, ◌∙◌, subst}
use Rattle.btr_chunk.specs.declared.chunk.Chunk.{Chunk}
use Rattle.btr_listing.specs.Step.{Step}
use Rattle.btr_prog.specs.Prog.{Run, exec, steps_of}
use Rattle.btr_read.specs.Fate.{Fault, fate}
use Rattle.btr_read.specs.Fate as fault
use Rattle.btr_read.specs.declared.want.Want.{Want}
use Rattle.btr_restore.specs.Committed.{committed}
use Rattle.btr_restore.specs.Journey.{listing}
use Rattle.btr_restore.specs.Outcome.{tree_after}
use Rattle.btr_salvage.specs.Laws.{HonestSalvage}
use Rattle.btr_salvage.specs.Left.{IsLeft}
use Rattle.btr_salvage.specs.Salvaging.{salvage_run}
use Rattle.btr_send.specs.Restored.{GivesSectors, IsStreamOf, SentLaw, members_of_rows, restores, sends}
use Rattle.btr_send.specs.Sectors.{ImagesGiveSectors}
use Rattle.btr_volume.specs.Maps.{array_layout, roots_differ}
use Rattle.btr_volume.specs.Start.{Images, Start, layout_by, start_of}
use Rattle.btr_volume.specs.Table.{TableResult, table_scan}
use Rattle.btr_volume.specs.declared.fault.OpenFault.{OpenFault}
use Rattle.btr_run.specs.Filesystem.{Filesystem, filesystem_of, with_roots, with_start, with_table}
use Rattle.btr_run.specs.Honest.{SalvageIsCommitted, SendIsStream}
use Rattle.btr_run.specs.Listed.{listed_answer, listed_by}
use Rattle.btr_run.specs.Outcomes.{Outcome}
use Rattle.btr_run.specs.Queries.Restored.{skipped_in}
use Rattle.btr_run.specs.Rows.{row_outcome}
use Rattle.btr_run.specs.Queries.Salvaged.{missed_in, salvage_row}
use Rattle.btr_run.specs.Queries.Sent.{send_row}
use Rattle.btr_run.specs.declared.answer.Answer.TheVariants.{Done}
use Rattle.btr_run.proofs.Rows.{row_opened}

-- a listing came to its end, with this much left out
record Ended {A : Type 0} (left_out : A → ℕ) (r : Run Want Fault Step A) (n : ℕ) : Type 0 where
  value : A
  ends : r.ending ≡ Ok value
  counted : n ≡ left_out value

-- a listing that answers that all was done came to its end
ended : {A : Type 0} (left_out : A → ℕ) (r : Run Want Fault Step A) (n : ℕ) → listed_answer left_out r.ending ≡ Done n → Ended left_out r n
ended {A = A} left_out r n is = of r.ending refl is
  where
    same : (a b : ℕ) → Done a ≡ Done b → a ≡ b
    same a b e = cc e

    of : (e : Result A Fault) → r.ending ≡ e → listed_answer left_out e ≡ Done n → Ended left_out r n
    of (Ok a) e is = record { value = a; ends = e; counted = sym (same (left_out a) n is) }
    of (Err (fault.Unmapped addr)) e is = absurd (cc is)
    of (Err (fault.Crosses addr)) e is = absurd (cc is)
    of (Err (fault.Lost addr)) e is = absurd (cc is)
    of (Err (fault.Malformed addr)) e is = absurd (cc is)
    of (Err (fault.NoTree id)) e is = absurd (cc is)

-- over honest images `restore -i` does the committed listing, but for entries that are named with a block that is lost
pub salvage_is_committed : HonestSalvage → SalvageIsCommitted
salvage_is_committed law plan dest images fs C counts missed dry opened honest ends answer =
    let r = salvage_run (fate images fs.layout) plan dest fs.sup in
    let is : row_outcome (salvage_row plan dest) images ≡ listed_by missed_in r = row_opened (salvage_row plan dest) images fs opened in
    let end = ended missed_in r missed (sym (ap (λ (o : Outcome). o.answer) is) ∙ answer) in
    record {
      salvaged = end.value;
      missing = end.counted;
      left = subst (IsLeft plan dest fs.sup (fate images fs.layout) (committed C images fs.layout) counts end.value
          (steps_of (exec (committed C images fs.layout) (listing plan dest fs.sup)).marks)) (sym (ap (λ (o : Outcome). o.steps) is))
          (law plan dest fs.sup images fs.layout C counts end.value dry honest ends end.ends);
    }

-- a filesystem is that of a start and a table
record IsFound (images : Images) (fs : Filesystem) : Type 0 where
  start : Start
  table : List Chunk
  starts : start_of images ≡ Ok start
  scanned : (exec (fate images (array_layout start)) (table_scan start)).ending ≡ Ok (Ok table)
  layout : layout_by start table ≡ fs.layout

module _ (images : Images) (fs : Filesystem) where
  -- a filesystem by a start and a table that were found is of these, where the root tree's root block doesn't refuse it
  found_by : (start : Start) (table : List Chunk) (o : Option ℕ) → start_of images ≡ Ok start
      → (exec (fate images (array_layout start)) (table_scan start)).ending ≡ Ok (Ok table) → with_roots start table o ≡ Ok fs → IsFound images fs
  found_by start table None starts scanned e = record {
    start = start;
    table = table;
    starts = starts;
    scanned = scanned;
    layout = let same : record { sup = start.sup; layout = layout_by start table } ≡ fs = cc e in ap (λ (f : Filesystem). f.layout) same;
  }
  found_by start table (Some slot) starts scanned e = absurd (cc e)

  -- the same by whatever the scan of the chunk tree came to
  found_in : (start : Start) (r : Result TableResult Fault) → start_of images ≡ Ok start
      → (exec (fate images (array_layout start)) (table_scan start)).ending ≡ r → with_table images start r ≡ Ok fs → IsFound images fs
  found_in start (Ok (Ok table)) starts scanned e = found_by start table (roots_differ images start (Ok (Ok table))) starts scanned e
  found_in start (Ok (Err refusal)) starts scanned e = absurd (cc e)
  found_in start (Err f) starts scanned e = absurd (cc e)

  -- the same by whatever the superblocks and the array came to
  found_from : (r : Result Start OpenFault) → start_of images ≡ r → with_start images r ≡ Ok fs → IsFound images fs
  found_from (Err refusal) starts e = absurd (cc e)
  found_from (Ok start) starts e = found_in start (exec (fate images (array_layout start)) (table_scan start)).ending starts refl e

  -- the filesystem of some images is that of their start and of the table of their chunk tree
  found : filesystem_of images ≡ Ok fs → IsFound images fs
  found e = found_from (start_of images) refl e

-- a send of images of bytes that is done leaves one stream, which makes what `restore` makes by the rules of `send`
pub send_is_stream : SentLaw → ImagesGiveSectors → SendIsStream
send_is_stream law give plan dest name images fs skipped opened bytes named answer =
    let B = fate images fs.layout in
    let is_found = found images fs opened in
    let sectors = subst (λ layout. GivesSectors (fate images layout)) is_found.layout
    (give images is_found.start is_found.table bytes is_found.starts is_found.scanned) in
    let r = exec B (sends fs.sup plan.root dest name) in
    let is : row_outcome (send_row plan dest name) images ≡ listed_by skipped_in r = row_opened (send_row plan dest name) images fs opened in
    let end = ended skipped_in r skipped (sym (ap (λ (o : Outcome). o.answer) is) ∙ answer) in
    let sent = law B fs.sup plan.root dest name end.value sectors named end.ends in
    record {
      counts = end.value;
      missing = end.counted;
      restored = sent.restored;
      stream = subst (λ steps. IsStreamOf dest name (tree_after steps).rows
          (members_of_rows (tree_after (steps_of (exec B (restores fs.sup plan.root dest name)).marks)).rows))
          (sym (ap (λ (o : Outcome). o.steps) is)) sent.stream;
    }
