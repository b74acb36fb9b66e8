use Rattle.std.proofs.Common.{◌≡◌}
use Rattle.btr_make.specs.Shelf.{standing}
use Rattle.btr_make.proofs.parities.put_parities.Given as goal

abbrev pub invariant-loop-row : goal.invariant-loop-row
invariant-loop-row l = standing l.rack ≡ standing l.fn.rack

abbrev pub invariant-loop-column : goal.invariant-loop-column
invariant-loop-column l = standing l.rack ≡ standing l.fn.rack
