use Rattle.std.proofs.Common.{ℕ, ◌-◌, ◌<◌, ◌≤◌}
use Rattle.btr_base.specs.Key.{key_number}
use Rattle.btr_node.specs.Block.{entry_key}
use Rattle.btr_node.proofs.table.first_from.Given as goal

abbrev pub invariant-loop-low : goal.invariant-loop-low
invariant-loop-low l = record {
  in_order : l.low ≤ l.high;
  within : l.high ≤ l.count;
  before : (i : ℕ) → i < l.low → key_number (entry_key l.size l.block i) < key_number l.key;
  behind : (i : ℕ) → l.high ≤ i → i < l.count → key_number l.key ≤ key_number (entry_key l.size l.block i);
}

abbrev pub decreases-loop-low : goal.decreases-loop-low
decreases-loop-low l = l.high - l.low
