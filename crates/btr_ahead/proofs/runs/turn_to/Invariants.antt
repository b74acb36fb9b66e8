use Rattle.std.proofs.Common.{List, Option, ℕ}
use Rattle.btr_ahead.specs.Reader.{HaveRead}
use Rattle.btr_ahead.proofs.runs.turn_to.Given as goal

abbrev pub invariant-loop-i : goal.invariant-loop-i
invariant-loop-i l = (held : Option (List (List ℕ))) → HaveRead held l.initial.current l.initial.others → HaveRead held l.current l.others
