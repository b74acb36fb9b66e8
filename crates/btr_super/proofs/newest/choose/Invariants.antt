use Rattle.std.proofs.Common.{◌<◌, ◌≤◌, length}
use Rattle.btr_super.proofs.Maximum.{IsNewestAt}
use Rattle.btr_super.proofs.newest.choose.Given as goal

abbrev pub invariant-loop-i : goal.invariant-loop-i
invariant-loop-i l = (l.best < length l.supers) × (l.best ≤ l.i) × IsNewestAt l.supers l.i l.best
