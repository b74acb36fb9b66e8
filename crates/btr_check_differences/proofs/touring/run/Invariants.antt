use Rattle.std.proofs.Common.{◌≡◌, ◌≤◌}
use Rattle.btr_rack.specs.Rack.{OnlyReads}
use Rattle.btr_read.specs.Store.{SameLoans, free_count}
use Rattle.btr_walk.specs.Reading.{TellsOf}
use Rattle.btr_tour.specs.TourEnds.{IsTourReady, without_leaf, rank_of}
use Rattle.btr_tour.proofs.Marks.{Led}
use Rattle.btr_check_differences.proofs.touring.run.Given as goal

abbrev pub invariant-loop : goal.invariant-loop
invariant-loop g l = record {
  ready : IsTourReady (g.R.Rack.seen l.rack) l.store l.tour;
  reads : OnlyReads (g.R.Rack.seen l.fn.rack) (g.R.Rack.seen l.rack);
  others : SameLoans (without_leaf l.fn.store l.fn.tour) (without_leaf l.store l.tour);
  room : 4 ≤ free_count (without_leaf l.store l.tour);
  layout : l.store.layout ≡ l.fn.store.layout;
  tells : TellsOf l.fn.store (g.R.Rack.seen l.fn.rack) (g.R.Rack.seen l.rack)
      (λ Is B. Led g.V.Visitor.step B l.fn.store l.fn.tour l.fn.visitor Is l.store l.tour l.visitor);
}

abbrev pub decreases-loop : goal.decreases-loop
decreases-loop g l = rank_of l.tour
