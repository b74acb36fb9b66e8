use Rattle.std.proofs.Common.{IfSome}
use Rattle.btr_scrub_row.proofs.Common.{IsStripeOf, Row}
use Rattle.btr_rack.specs.Rack.{NoneFailed, OnlyReads}
use Rattle.btr_scrub_row.specs.Memory.{HoldsFirst}
use Rattle.btr_scrub_row.proofs.reading.read_row.Given as goal

abbrev pub invariant-loop-number : goal.invariant-loop-number
invariant-loop-number g l = record {
  reads : OnlyReads (g.R.Rack.seen l.fn.rack) (g.R.Rack.seen l.rack);
  none : NoneFailed (g.R.Rack.seen l.fn.rack).account (g.R.Rack.seen l.rack).account;
  bytes : IfSome (g.R.Rack.seen l.fn.rack).held (λ images. (row : Row) → IsStripeOf l.store.layout l.stripe row
      → HoldsFirst images l.store.layout row l.bytes l.number);
}
