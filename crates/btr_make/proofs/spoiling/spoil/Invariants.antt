use Rattle.std.proofs.Common.{◌≡◌, ℕ, List, Some}
use Rattle.btr_rack.specs.Memory.{named}
use Rattle.btr_make.specs.Spoil.{spoiled_below, Becomes}
use Rattle.btr_make.proofs.spoiling.spoil.Given as goal

abbrev pub invariant-loop-index : goal.invariant-loop-index
invariant-loop-index l = (image : List ℕ) × (named l.fn.rack l.fn.name ≡ Some image) × Becomes l.fn.name (spoiled_below l.index image) l.fn.rack l.rack
