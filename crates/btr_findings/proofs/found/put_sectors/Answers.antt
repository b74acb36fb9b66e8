use Rattle.std.proofs.Common.{subst}
use Rattle.std.proofs.lemmas.Result.{on_ok_weaker}
use Rattle.btr_findings.specs.Findings.{Adds, FoundSet}
use Rattle.btr_findings.specs.Runs.{found_set}
use Rattle.btr_findings.specs.Sectors.{sector_findings}
use Rattle.btr_findings.proofs.Setting.{run_put}
use Rattle.btr_findings.proofs.found.put_sectors.Goals as goal

pub returns-in-Some : goal.returns-in-Some
returns-in-Some c =
    let findings = sector_findings c.args.rule c.args.start c.args.count in
    on_ok_weaker c.push_run.result
    (λ more. subst (λ (set : FoundSet). Adds findings set (found_set c.found.inside.single c.push_run.new.runs.items)) c.found.view_is
    (run_put c.found.inside.single c.found.inside.runs.items c.push_run.new.runs.items c.in-Some.run' findings more c.in-Some.ensures.findings))
    c.push_run.ensures.findings
