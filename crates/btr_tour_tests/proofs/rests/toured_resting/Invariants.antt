use Rattle.std.proofs.Common.{◌≡◌}
use Rattle.btr_rack.specs.Memory.{seen_of}
use Rattle.btr_read.specs.Serves.{Serves}
use Rattle.btr_read.specs.Store.{free_count}
use Rattle.btr_tour.specs.Rests.{Fits}
use Rattle.btr_tour_tests.proofs.rests.toured_resting.Given as goal

abbrev pub invariant-loop : goal.invariant-loop
invariant-loop l = record {
  serves : Serves (seen_of l.rack) l.store;
  free : free_count l.store ≡ 24;
  fits : Fits l.rest;
}
