use Rattle.std.proofs.Common.{◌≡◌}
use Rattle.btr_rack.specs.Memory.{seen_of}
use Rattle.btr_read.specs.Store.{free_count}
use Rattle.btr_walk.specs.ScanEnds.{IsScanReady, without_leaf}
use Rattle.btr_walk_tests.proofs.volume.collect.Given as goal

abbrev pub invariant-loop : goal.invariant-loop
invariant-loop l = record {
  ready : IsScanReady (seen_of l.rack) l.store l.scan;
  free : free_count (without_leaf l.store l.scan) ≡ 24;
}
