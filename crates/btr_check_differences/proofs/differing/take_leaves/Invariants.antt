use Rattle.std.proofs.Common.{take}
use Rattle.btr_check_differences.specs.Ranges.{TakesAll}
use Rattle.btr_check_differences.proofs.differing.take_leaves.Given as goal

-- the leaves so far came to those before
abbrev pub invariant-loop-pointer : goal.invariant-loop-pointer
invariant-loop-pointer l = TakesAll l.fn.found.ranges.items (take l.pointer-index l.block_pointers) l.found.ranges.items
