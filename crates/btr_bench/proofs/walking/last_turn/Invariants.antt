use Rattle.std.proofs.Common.{◌≡◌, ◌≤◌}
use Rattle.btr_rack.specs.Memory.{seen_of}
use Rattle.btr_read.specs.Serves.{Serves}
use Rattle.btr_read.specs.Store.{free_count}
use Rattle.btr_bench.proofs.walking.last_turn.Given as goal

abbrev pub invariant-loop-turn : goal.invariant-loop-turn
invariant-loop-turn l = record {
  serves : Serves (seen_of l.rack) l.store;
  free : free_count l.store ≡ 24;
  most : l.had ≤ l.fn.count;
}
