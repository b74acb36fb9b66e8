use Rattle.std.proofs.Common.{◌≡◌}
use Rattle.btr_make.specs.Shelf.{standing}
use Rattle.btr_make.proofs.draft.Draft.put_supers.Given as goal

abbrev pub invariant-loop-devid : goal.invariant-loop-devid
invariant-loop-devid l = standing l.rack ≡ standing l.fn.rack

abbrev pub invariant-loop-place : goal.invariant-loop-place
invariant-loop-place l = standing l.rack ≡ standing l.fn.rack
