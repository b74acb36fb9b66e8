use Rattle.std.proofs.Common.{◌≡◌, ◌≤◌}
use Rattle.btr_rack.specs.Memory.{seen_of}
use Rattle.btr_read.specs.Store.{free_count}
use Rattle.btr_walk.specs.ScanEnds.{IsScanReady, without_leaf}
use Rattle.btr_bench.proofs.walking.take_all.Given as goal

-- no more items are taken than there were turns
abbrev pub invariant-loop-item : goal.invariant-loop-item
invariant-loop-item l = record {
  ready : IsScanReady (seen_of l.rack) l.store l.scan;
  free : free_count (without_leaf l.store l.scan) ≡ 24;
  most : l.taken ≤ l._item;
}
