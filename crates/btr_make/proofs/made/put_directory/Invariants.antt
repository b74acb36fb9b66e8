use Rattle.std.proofs.Common.{◌≡◌}
use Rattle.btr_make.specs.Shelf.{standing}
use Rattle.btr_make.proofs.made.put_directory.Given as goal

abbrev pub invariant-loop-j : goal.invariant-loop-j
invariant-loop-j l = standing l.rack ≡ standing l.fn.rack
