use Rattle.std.proofs.Common.{◌≡◌, take, flat_map}
use Rattle.btr_text.specs.Text.{Wrote}
use Rattle.btr_check.specs.Text.{number_text}
use Rattle.btr_check.proofs.text.push_numbers.Given as goal

abbrev pub invariant-loop-n : goal.invariant-loop-n
invariant-loop-n g l = record {
  text : Wrote (g.O.Out.text l.fn.out) (g.O.Out.text l.out) l.fn.buffer l.buffer (flat_map number_text (take l.n-index l.numbers));
  account : g.O.Out.account l.out ≡ g.O.Out.account l.fn.out;
}
