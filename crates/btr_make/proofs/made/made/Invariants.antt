use Rattle.btr_make.specs.Shelf.{IsShelved}
use Rattle.btr_make.proofs.made.made.Given as goal

abbrev pub invariant-loop-i : goal.invariant-loop-i
invariant-loop-i l = IsShelved l.rack
