use Rattle.std.proofs.Common.{◌≡◌, ◌+◌, ◌<◌, ◌^◌, length}
use Rattle.btr_trial.proofs.checking.count_all.Given as goal

abbrev pub invariant-loop-count : goal.invariant-loop-count
invariant-loop-count l = record {
  few : length l.fn.findings < 2 ^ 64;
  counted : l.count + length l.findings ≡ length l.fn.findings;
}

abbrev pub decreases-loop-count : goal.decreases-loop-count
decreases-loop-count l = length l.findings
