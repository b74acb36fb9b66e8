use Rattle.std.proofs.Common.{◌≡◌, ◌++◌, drop, length, length-append, ap, arith}
use Rattle.btr_findings.specs.Findings.{in_order}
use Rattle.btr_findings.specs.Runs.{runs_left}
use Rattle.btr_findings.proofs.Sets.{length-in_order}
use Rattle.btr_findings.proofs.findings.Findings.few_law.Goals as goal

pub returns : goal.returns
returns c =
    let inside = c.self.inside in
    let single = drop inside.at inside.single.items in
    let lines = runs_left (drop inside.place.run inside.runs.items) inside.place.done in
    let same : length (in_order (single ++ lines)) ≡ length c.args.self.now = ap length c.self.view_is in
    omega (arith, same, length-in_order (single ++ lines), length-append single lines, c.self.invariant.few)
