use Rattle.std.proofs.Common.{◌≡◌, take}
use Rattle.btr_text.specs.Pieces.{text_of}
use Rattle.btr_text.specs.Text.{Wrote}
use Rattle.btr_text.proofs.buffer.TextBuffer.push_all.Given as goal

abbrev pub invariant-loop-piece : goal.invariant-loop-piece
invariant-loop-piece g l = record {
  text : Wrote (g.O.Out.text l.fn.out) (g.O.Out.text l.out) l.fn.self l.self (text_of (take l.piece-index l.pieces));
  account : g.O.Out.account l.out ≡ g.O.Out.account l.fn.out;
}
