use Rattle.std.proofs.Common.{◌≡◌, ◌<◌, ◌≤◌, ◌^◌, drop, length, take, flat_map}
use Rattle.btr_text.specs.Text.{Wrote}
use Rattle.btr_check.specs.Text.{line_of}
use Rattle.btr_check.proofs.text.push_findings.Given as goal

-- the lines of the findings so far
abbrev pub invariant-loop-finding : goal.invariant-loop-finding
invariant-loop-finding g l = record {
  few : length l.fn.findings < 2 ^ 64;
  within : l.count ≤ length l.fn.findings;
  left : l.findings ≡ drop l.count l.fn.findings;
  text : Wrote (g.O.Out.text l.fn.out) (g.O.Out.text l.out) l.fn.buffer l.buffer (flat_map line_of (take l.count l.fn.findings));
  account : g.O.Out.account l.out ≡ g.O.Out.account l.fn.out;
}

abbrev pub decreases-loop-finding : goal.decreases-loop-finding
decreases-loop-finding g l = length l.findings
