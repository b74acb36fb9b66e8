use Rattle.std.proofs.Common.{◌≤◌, ◌-◌}
use Rattle.btr_read.proofs.Solutions.{SolvedSoFar}
use Rattle.btr_read.proofs.solving.solve.Given as goal

abbrev pub invariant-loop-done : goal.invariant-loop-done
invariant-loop-done l = record {
  within : l.done ≤ l.len;
  so_far : SolvedSoFar l.index l.other l.p l.q l.done l.fn.pool l.pool;
}

abbrev pub decreases-loop-done : goal.decreases-loop-done
decreases-loop-done l = l.len - l.done
