use Rattle.std.proofs.Common.{◌-◌, ◌*◌, length, map}
use Rattle.std.specs.List.{range_with_len}
use Rattle.btr_node.specs.Block.{item_at, is_packed}
use Rattle.btr_node.proofs.Packing.{SoFar}
use Rattle.btr_node.proofs.leaf.is_packed.Given as goal

abbrev pub invariant-loop-i : goal.invariant-loop-i
invariant-loop-i l =
    SoFar (is_packed (25 * l.count) (length l.block - 101) (map (item_at l.block) (range_with_len 0 l.count))) l.block (25 * l.count) l.count l.end l.i
