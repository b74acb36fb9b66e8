use Rattle.std.proofs.Common.{◌≤◌}
use Rattle.btr_rack.specs.Rack.{OnlyReads}
use Rattle.btr_read.specs.Serves.{Serves}
use Rattle.btr_read.specs.Store.{SameLoans}
use Rattle.btr_walk.specs.Reading.{Tells}
use Rattle.btr_walk.specs.Ranks.{IsShaped, rank}
use Rattle.btr_walk.proofs.Leads.{Leads}
use Rattle.btr_walk.proofs.leaving.to_leaf.Given as goal

abbrev pub invariant-loop-leaf : goal.invariant-loop-leaf
invariant-loop-leaf g l = record {
  reads : OnlyReads (g.R.Rack.seen l.fn.rack) (g.R.Rack.seen l.rack);
  serves : Serves (g.R.Rack.seen l.rack) l.store;
  same : SameLoans l.fn.store l.store;
  shaped : IsShaped l.place;
  near : rank l.place ≤ rank l.fn.place;
  tells : Tells l.fn.store.layout (g.R.Rack.seen l.fn.rack) (g.R.Rack.seen l.rack) (λ B. Leads l.lo l.hi B l.fn.place l.place);
}

abbrev pub decreases-loop-leaf : goal.decreases-loop-leaf
decreases-loop-leaf g l = rank l.place
