use Rattle.std.proofs.Common.{◌≡◌, ◌≤◌, Ok, Some, length}
use Rattle.btr_scrub_copies.proofs.Common.{AreFlagged, Images, NoneFailed, OnlyReads, SameLoans, Serves, Target, flagged, is_stale, sought}
use Rattle.btr_scrub_copies.specs.Freshening.{OfLoan}
use Rattle.btr_scrub_copies.proofs.freshening.stale_copies.Given as goal

abbrev pub invariant-loop-mirror : goal.invariant-loop-mirror
invariant-loop-mirror g l = record {
  serves : Serves (g.R.Rack.seen l.rack) l.store;
  reads : OnlyReads (g.R.Rack.seen l.initial.rack) (g.R.Rack.seen l.rack);
  same : SameLoans l.initial.store l.store;
  long : length l.flags ≡ 4;
  few : l.count ≤ l.mirror;
  stale : (t : Target) (images : Images) → sought l.initial.store.layout l.block.want.now ≡ Ok t → (g.R.Rack.seen l.initial.rack).held ≡ Some images
      → OfLoan l.initial.store l.loan (λ bytes. AreFlagged (is_stale images (flagged l.failing) t bytes) l.mirror l.flags l.count);
  account : NoneFailed (g.R.Rack.seen l.initial.rack).account (g.R.Rack.seen l.rack).account;
}
