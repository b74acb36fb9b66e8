use Rattle.std.proofs.Common.{List, Option, ℕ}
use Rattle.std.specs.List.{AllWithin}
use Rattle.btr_ahead.specs.Reader.{HasRead}
use Rattle.btr_ahead.proofs.runs.clear_all.Given as goal

abbrev pub invariant-loop-i : goal.invariant-loop-i
invariant-loop-i l = (held : Option (List (List ℕ))) → AllWithin (HasRead held) l.runs 0 l.i
