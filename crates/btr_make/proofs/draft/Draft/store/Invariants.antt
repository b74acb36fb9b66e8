use Rattle.std.proofs.Common.{◌≡◌}
use Rattle.btr_make.specs.Shelf.{standing}
use Rattle.btr_make.proofs.draft.Draft.store.Given as goal

abbrev pub invariant-loop-piece : goal.invariant-loop-piece
invariant-loop-piece l = standing l.rack ≡ standing l.fn.rack
