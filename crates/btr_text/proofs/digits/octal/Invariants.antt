use Rattle.std.proofs.Common.{◌≡◌, ◌≤◌, false, length, drop}
use Rattle.std.specs.Fmt.{digits, digits_onto}
use Rattle.btr_text.proofs.digits.octal.Given as goal

abbrev pub invariant-loop-start : goal.invariant-loop-start
invariant-loop-start l = record {
  within : l.start ≤ 64;
  size : length l.bytes ≡ 64;
  written : digits_onto l.start 8 false l.rest (drop l.start l.bytes) ≡ digits 8 false l.n;
}

abbrev pub decreases-loop-start : goal.decreases-loop-start
decreases-loop-start l = l.start
