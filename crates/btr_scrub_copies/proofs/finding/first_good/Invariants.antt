use Rattle.std.proofs.Common.{◌≡◌, [], take, Ok, Some}
use Rattle.btr_scrub_copies.proofs.Common.{Images, NoneFailed, OnlyReads, SameLoans, Serves, Target, candidates, sought}
use Rattle.btr_read.specs.Trial.{passing_of}
use Rattle.btr_scrub_copies.proofs.finding.first_good.Given as goal

abbrev pub invariant-loop-k : goal.invariant-loop-k
invariant-loop-k g l = record {
  serves : Serves (g.R.Rack.seen l.rack) l.store;
  reads : OnlyReads (g.R.Rack.seen l.initial.rack) (g.R.Rack.seen l.rack);
  same : SameLoans l.initial.store l.store;
  none : (t : Target) (images : Images) → sought l.initial.store.layout l.block.want.now ≡ Ok t → (g.R.Rack.seen l.initial.rack).held ≡ Some images
      → passing_of images t (take l.k (candidates t)) ≡ [];
  account : NoneFailed (g.R.Rack.seen l.initial.rack).account (g.R.Rack.seen l.rack).account;
}
