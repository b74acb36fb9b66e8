use Rattle.std.proofs.Common.{◌≡◌, [], take, drop}
use Rattle.btr_volume.specs.Start.{twin_from}
use Rattle.btr_volume.proofs.refusing.twin.Given as goal

abbrev pub invariant-loop-slot : goal.invariant-loop-slot
invariant-loop-slot l = twin_from 0 [] l.supers ≡ twin_from l.slot (take l.slot l.supers) (drop l.slot l.supers)
