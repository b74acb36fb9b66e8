use Rattle.std.proofs.Common.{◌≡◌, ◌++◌, take}
use Rattle.btr_scrub.proofs.listed.push_sum.Given as goal

abbrev pub invariant-loop-i : goal.invariant-loop-i
invariant-loop-i l = l.sums ≡ l.fn.sums ++ take l.i l.fn.sum.bytes
