use Rattle.std.proofs.Common.{◌≡◌, take, Ok}
use Rattle.btr_scrub_row.proofs.Common.{column_writes, flat_map, part_of, range_with_len}
use Rattle.btr_scrub_row.specs.Preparing.{WritesPrepared}
use Rattle.btr_scrub_row.proofs.sectors.write_parity.Given as goal

abbrev pub invariant-loop-column : goal.invariant-loop-column
invariant-loop-column g l = record {
  slots : (g.R.Rack.seen l.rack).slots ≡ (g.R.Rack.seen l.fn.rack).slots;
  done : WritesPrepared {A = Unit {0}} l.store.layout l.prepared.stripe l.prepared.judged.now l.prepared.buffer.now
      (λ images row. flat_map (column_writes l.store.layout row (part_of l.parity) images) (take l.column (range_with_len 0 16)))
      l.fn.marks l.marks (g.R.Rack.seen l.fn.rack) (g.R.Rack.seen l.rack) (Ok tt);
}
