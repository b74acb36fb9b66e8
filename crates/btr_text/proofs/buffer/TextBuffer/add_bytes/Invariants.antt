use Rattle.std.proofs.Common.{◌≡◌, take}
use Rattle.btr_text.specs.Pieces.{bytes_text}
use Rattle.btr_text.specs.Text.{Wrote}
use Rattle.btr_text.proofs.buffer.TextBuffer.add_bytes.Given as goal

abbrev pub invariant-loop-b : goal.invariant-loop-b
invariant-loop-b g l = record {
  text : Wrote (g.O.Out.text l.fn.out) (g.O.Out.text l.out) l.fn.self l.self (bytes_text (take l.b-index l.bytes));
  account : g.O.Out.account l.out ≡ g.O.Out.account l.fn.out;
}
