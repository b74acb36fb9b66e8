use Rattle.std.proofs.Common.{◌≡◌, ◌++◌, drop, take}
use Rattle.btr_text.specs.Pieces.{name_text}
use Rattle.btr_run.specs.Text.{label_text}
use Rattle.btr_run.proofs.text.label_of.Given as goal

abbrev pub invariant-loop-i : goal.invariant-loop-i
invariant-loop-i l = name_text (take l.i l.field) ++ label_text (drop l.i l.field) ≡ label_text l.field
