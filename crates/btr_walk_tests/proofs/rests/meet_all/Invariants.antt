use Rattle.std.proofs.Common.{◌≡◌}
use Rattle.btr_rack.specs.Memory.{seen_of}
use Rattle.btr_read.specs.Serves.{Serves}
use Rattle.btr_read.specs.Store.{free_count}
use Rattle.btr_walk.specs.Ranks.{IsShaped}
use Rattle.btr_walk_tests.proofs.rests.meet_all.Given as goal

abbrev pub invariant-loop-wanted : goal.invariant-loop-wanted
invariant-loop-wanted g l = record {
  serves : Serves (seen_of l.rack) l.store;
  free : free_count l.store ≡ 24;
  shaped : IsShaped l.rest.place.rest;
}
