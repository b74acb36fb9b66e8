use Rattle.std.proofs.Common.{◌≡◌, ◌≤◌}
use Rattle.btr_rack.specs.Memory.{seen_of}
use Rattle.btr_read.specs.Serves.{Serves}
use Rattle.btr_read.specs.Store.{free_count}
use Rattle.btr_bench.proofs.walking.found.Given as goal

-- no more lookups found an item than there were
abbrev pub invariant-loop-lookup : goal.invariant-loop-lookup
invariant-loop-lookup l = record {
  serves : Serves (seen_of l.rack) l.store;
  free : free_count l.store ≡ 24;
  most : l.found ≤ l._lookup;
}
