use Rattle.std.proofs.Common.{◌≡◌}
use Rattle.btr_rack.specs.Memory.{seen_of}
use Rattle.btr_read.specs.Serves.{Serves}
use Rattle.btr_read.specs.Store.{free_count}
use Rattle.btr_tour_tests.proofs.tours.pass_blocks.Given as goal

abbrev pub invariant-loop-block : goal.invariant-loop-block
invariant-loop-block g l = record {
  serves : Serves (seen_of l.rack) l.store;
  free : free_count l.store ≡ 24;
}
