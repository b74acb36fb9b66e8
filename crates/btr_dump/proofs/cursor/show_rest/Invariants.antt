use Rattle.std.proofs.Common.{◌≡◌, ◌≤◌}
use Rattle.btr_rack.specs.Rack.{OnlyReads}
use Rattle.btr_read.specs.Store.{SameLoans, free_count}
use Rattle.btr_walk.specs.Lending.{base}
use Rattle.btr_walk.specs.Reading.{Tells}
use Rattle.btr_dump.specs.Showing.{Grows}
use Rattle.btr_dump.proofs.Loops.{Led}
use Rattle.btr_dump.proofs.cursor.show_rest.Given as goal

abbrev pub invariant-loop : goal.invariant-loop
invariant-loop g l = record {
  ready : g.C.Cursor.ready (g.R.Rack.seen l.rack) l.store l.cursor;
  reads : OnlyReads (g.R.Rack.seen l.fn.rack) (g.R.Rack.seen l.rack);
  others : SameLoans (base l.fn.store (g.C.Cursor.loan l.fn.cursor)) (base l.store (g.C.Cursor.loan l.cursor));
  room : g.C.Cursor.room ≤ free_count (base l.store (g.C.Cursor.loan l.cursor));
  layout : l.store.layout ≡ l.fn.store.layout;
  account : g.O.Out.account l.out ≡ g.O.Out.account l.fn.out;
  grows : Grows (g.O.Out.text l.fn.out) (g.O.Out.text l.out);
  tells : Tells l.fn.store.layout (g.R.Rack.seen l.fn.rack) (g.R.Rack.seen l.rack)
      (λ B. Led g.C.Cursor.on g.C.Cursor.left B l.fn.store l.store l.fn.cursor l.cursor
      (g.O.Out.text l.fn.out) (g.O.Out.text l.out) l.fn.text l.text);
}

abbrev pub decreases-loop : goal.decreases-loop
decreases-loop g l = g.C.Cursor.rank l.cursor
