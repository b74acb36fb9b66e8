use Rattle.std.proofs.Common.{◌≤◌, ◌-◌}
use Rattle.btr_read.proofs.Pieces.{CopiedSoFar}
use Rattle.btr_read.proofs.folding.copy_slot.Given as goal

abbrev pub invariant-loop-done : goal.invariant-loop-done
invariant-loop-done l = record {
  within : l.done ≤ l.len;
  so_far : CopiedSoFar l.to l.from l.done l.fn.pool l.pool;
}

abbrev pub decreases-loop-done : goal.decreases-loop-done
decreases-loop-done l = l.len - l.done
