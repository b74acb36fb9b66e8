use Rattle.std.proofs.Common.{◌≡◌, drop}
use Rattle.btr_volume.specs.Start.{foreign_from}
use Rattle.btr_volume.proofs.refusing.foreign.Given as goal

abbrev pub invariant-loop-slot : goal.invariant-loop-slot
invariant-loop-slot l = foreign_from 0 l.chosen l.supers ≡ foreign_from l.slot l.chosen (drop l.slot l.supers)
