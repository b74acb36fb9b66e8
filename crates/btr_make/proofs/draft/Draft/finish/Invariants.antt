use Rattle.std.proofs.Common.{◌≡◌}
use Rattle.btr_make.specs.Shelf.{standing}
use Rattle.btr_make.proofs.draft.Draft.finish.Given as goal

abbrev pub invariant-loop-plan : goal.invariant-loop-plan
invariant-loop-plan l = standing l.rack ≡ standing l.fn.rack
