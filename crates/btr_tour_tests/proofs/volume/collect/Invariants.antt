use Rattle.std.proofs.Common.{◌≡◌}
use Rattle.btr_rack.specs.Memory.{seen_of}
use Rattle.btr_read.specs.Store.{free_count}
use Rattle.btr_tour.specs.TourEnds.{IsTourReady, without_leaf}
use Rattle.btr_tour_tests.proofs.volume.collect.Given as goal

abbrev pub invariant-loop : goal.invariant-loop
invariant-loop l = record {
  ready : IsTourReady (seen_of l.rack) l.store l.tour;
  free : free_count (without_leaf l.store l.tour) ≡ 24;
}
