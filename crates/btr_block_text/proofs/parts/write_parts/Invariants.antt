use Rattle.std.proofs.Common.{◌≡◌}
use Rattle.std.specs.List.{All, flat_map}
use Rattle.std.specs.Result.{IfOk}
use Rattle.btr_block_text.specs.Read.{of_read}
use Rattle.btr_block_text.proofs.Lines.{SoFar}
use Rattle.btr_block_text.proofs.parts.write_parts.Given as goal

abbrev pub invariant-loop-read : goal.invariant-loop-read
invariant-loop-read g l = record {
  text : SoFar (g.O.Out.text l.fn.out) (g.O.Out.text l.out) l.fn.text l.text (flat_map (of_read (g.P.Line.line l.body)) l.read-iterator)
      (flat_map (of_read (g.P.Line.line l.body)) l.fn.parts);
  account : g.O.Out.account l.out ≡ g.O.Out.account l.fn.out;
  stand : All (λ read. IfOk read (g.P.Line.stands l.body)) l.read-iterator;
}
