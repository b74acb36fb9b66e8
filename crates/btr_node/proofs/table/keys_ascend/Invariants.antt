use Rattle.std.proofs.Common.{ℕ, ◌+◌, ◌<◌}
use Rattle.btr_base.specs.Key.{key_number}
use Rattle.btr_node.specs.Block.{entry_key}
use Rattle.btr_node.proofs.table.keys_ascend.Given as goal

abbrev pub invariant-loop-i : goal.invariant-loop-i
invariant-loop-i l = (k : ℕ) → k + 1 < l.i → key_number (entry_key l.size l.block k) < key_number (entry_key l.size l.block (k + 1))
