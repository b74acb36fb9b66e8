use Rattle.std.proofs.Common.{◌≡◌, ◌≤◌, Ok, Some, length}
use Rattle.btr_scrub_copies.proofs.Common.{Images, NoneFailed, OnlyReads, SameLoans, Serves, Target, sought}
use Rattle.btr_scrub_copies.specs.Mending.{AreBad}
use Rattle.btr_scrub_copies.proofs.finding.bad_copies.Given as goal

abbrev pub invariant-loop-mirror : goal.invariant-loop-mirror
invariant-loop-mirror g l = record {
  serves : Serves (g.R.Rack.seen l.rack) l.store;
  reads : OnlyReads (g.R.Rack.seen l.initial.rack) (g.R.Rack.seen l.rack);
  same : SameLoans l.initial.store l.store;
  long : length l.flags ≡ 4;
  few : l.count ≤ l.mirror;
  bad : (t : Target) (images : Images) → sought l.initial.store.layout l.block.want.now ≡ Ok t → (g.R.Rack.seen l.initial.rack).held ≡ Some images
      → AreBad images t l.mirror l.flags l.count;
  account : NoneFailed (g.R.Rack.seen l.initial.rack).account (g.R.Rack.seen l.rack).account;
}
