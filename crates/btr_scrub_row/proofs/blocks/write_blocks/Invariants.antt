use Rattle.std.proofs.Common.{◌≡◌, take, Option, Ok}
use Rattle.btr_scrub_row.proofs.Common.{DoesWrites, Images, IsOfRow, Row, flat_map, mending_writes, told_writes}
use Rattle.btr_scrub_row.specs.Memory.{IsWantedRow}
use Rattle.btr_scrub_row.specs.Writing.{TellsHeldRow}
use Rattle.btr_scrub_row.proofs.blocks.write_blocks.Given as goal

abbrev pub invariant-loop-want : goal.invariant-loop-want
invariant-loop-want g l = record {
  slots : (g.R.Rack.seen l.rack).slots ≡ (g.R.Rack.seen l.fn.rack).slots;
  done : (told : Option Images) (row : Row) → IsWantedRow l.view.store.now.layout l.view.wanted row
      → TellsHeldRow l.view.store.now.layout row l.view.old.now told (g.R.Rack.seen l.fn.rack).held
      → DoesWrites {A = Unit {0}} (IsOfRow l.view.store.now.layout row) (λ images. told_writes
      (λ images. flat_map (mending_writes images row.failing) (take l.want-index row.blocks)) told) l.fn.marks l.marks (g.R.Rack.seen l.fn.rack)
      (g.R.Rack.seen l.rack) (Ok tt);
}
