use Rattle.btr_rack.specs.Rack.{OnlyReads}
use Rattle.btr_read.specs.Serves.{Serves}
use Rattle.btr_read.specs.Store.{SameLoans}
use Rattle.btr_walk.specs.Le.{root_pointer}
use Rattle.btr_walk.specs.Reading.{Tells}
use Rattle.btr_walk.proofs.Reaching.{Carries}
use Rattle.btr_walk.proofs.Ways.{Way}
use Rattle.btr_walk.proofs.finding.seek_le.Given as goal

abbrev pub invariant-loop-loan : goal.invariant-loop-loan
invariant-loop-loan g l = record {
  reads : OnlyReads (g.R.Rack.seen l.fn.rack) (g.R.Rack.seen l.rack);
  serves : Serves (g.R.Rack.seen l.rack) l.store;
  same : SameLoans l.fn.store l.store;
  tells : Tells l.fn.store.layout (g.R.Rack.seen l.fn.rack) (g.R.Rack.seen l.rack)
      (λ B. Way B l.key l.fn.root.level (root_pointer l.fn.root) l.level l.pointer × Carries B l.key l.fn.root l.level l.pointer);
}

abbrev pub decreases-loop-loan : goal.decreases-loop-loan
decreases-loop-loan g l = l.level
