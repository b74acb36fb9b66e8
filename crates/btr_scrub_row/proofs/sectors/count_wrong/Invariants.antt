use Rattle.std.proofs.Common.{◌≡◌, ◌≤◌, ◌&&◌, take, count_by}
use Rattle.btr_scrub_row.proofs.Common.{Layout, differs, is_decided, part_of, range_with_len}
use Rattle.btr_scrub_row.specs.Preparing.{WherePrepared}
use Rattle.btr_scrub_row.proofs.sectors.count_wrong.Given as goal

abbrev pub invariant-loop-column : goal.invariant-loop-column
invariant-loop-column l = record {
  few : l.count ≤ l.column;
  count : (layout : Layout) → WherePrepared layout l.prepared.stripe l.prepared.judged.now l.prepared.buffer.now (λ images row. l.count
      ≡ count_by (λ column. is_decided images layout row column && differs images layout row (part_of l.parity) column)
      (take l.column (range_with_len 0 16)));
}
