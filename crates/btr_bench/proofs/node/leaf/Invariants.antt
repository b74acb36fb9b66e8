use Rattle.std.proofs.Common.{◌≡◌, ◌+◌, ◌*◌, ◌++◌, [], ◌∷◌, length, map, replicate}
use Rattle.std.specs.Int.{w32, to_le_bytes}
use Rattle.std.specs.List.{concat, range_with_len}
use Rattle.btr_bench.specs.Node.{item_count, entry}
use Rattle.btr_bench.proofs.node.leaf.Given as goal

-- behind the header stand the entries so far
abbrev pub invariant-loop-i : goal.invariant-loop-i
invariant-loop-i l = record {
  entries : l.block.items ≡ replicate 96 0 ++ to_le_bytes w32 (item_count l.fn.size) ++ 0 ∷ [] ++ concat (map (entry l.fn.size) (range_with_len 0 l.i));
  long : length l.block.items ≡ 101 + 25 * l.i;
}
