use Rattle.std.proofs.Common.{◌≡◌, ◌-◌}
use Rattle.std.specs.List.{flat_map, range_with_len}
use Rattle.btr_block_text.specs.Chunk.{stripe_line, chunk_lines}
use Rattle.btr_block_text.proofs.Lines.{SoFar}
use Rattle.btr_block_text.proofs.chunk.write_chunk.Given as goal

abbrev pub invariant-loop-i : goal.invariant-loop-i
invariant-loop-i g l = record {
  text : SoFar (g.O.Out.text l.fn.out) (g.O.Out.text l.out) l.fn.text l.text (flat_map (stripe_line l.body) (range_with_len l.i (l.i-end - l.i)))
      (chunk_lines l.body);
  account : g.O.Out.account l.out ≡ g.O.Out.account l.fn.out;
}
