use Rattle.std.proofs.Common.{◌≡◌, ◌-◌}
use Rattle.std.specs.List.{flat_map, range_with_len}
use Rattle.btr_node.specs.Block.{pointer_at}
use Rattle.btr_block_text.specs.Block.{pointer_line, node_text}
use Rattle.btr_block_text.proofs.Lines.{SoFar}
use Rattle.btr_block_text.proofs.block.write_inner.Given as goal

abbrev pub invariant-loop-i : goal.invariant-loop-i
invariant-loop-i g l = record {
  text : SoFar (g.O.Out.text l.fn.out) (g.O.Out.text l.out) l.fn.text l.text
      (flat_map (λ i. pointer_line (pointer_at l.block i)) (range_with_len l.i (l.i-end - l.i))) (node_text l.fn.sums l.fn.addr l.block);
  account : g.O.Out.account l.out ≡ g.O.Out.account l.fn.out;
}
