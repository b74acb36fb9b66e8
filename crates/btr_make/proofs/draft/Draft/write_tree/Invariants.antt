use Rattle.std.proofs.Common.{◌≡◌}
use Rattle.btr_make.specs.Shelf.{standing}
use Rattle.btr_make.proofs.draft.Draft.write_tree.Given as goal

abbrev pub invariant-loop-block : goal.invariant-loop-block
invariant-loop-block l = standing l.rack ≡ standing l.fn.rack
