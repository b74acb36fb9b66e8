use Rattle.std.proofs.Common.{◌∙◌}
use Rattle.btr_findings.specs.Runs.{no_run}
use Rattle.btr_findings.proofs.Taking.{run_done}
use Rattle.btr_findings.proofs.findings.settled.Goals as goal

pub loop-place-preserved : goal.loop-place-preserved
loop-place-preserved c = run_done c.args.runs.now c.loop-place.place.run c.loop-place.place.done no_run c.loop-place-test.true c.if-runs-place.true
    ∙ c.loop-place.invariant
