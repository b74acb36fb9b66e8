use Rattle.std.proofs.Common.{◌≡◌, drop}
use Rattle.btr_super.specs.Compared.{diverged_from}
use Rattle.btr_super.proofs.compared.diverged.Given as goal

abbrev pub invariant-loop-slot : goal.invariant-loop-slot
invariant-loop-slot l = diverged_from 0 l.chosen l.supers ≡ diverged_from l.slot l.chosen (drop l.slot l.supers)
