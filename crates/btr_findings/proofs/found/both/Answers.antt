use Rattle.std.proofs.Common.{◌≡◌, ◌++◌, true, ap, ◌∙◌, rules}
use Rattle.btr_findings.specs.Runs.{is_rule}
use Rattle.btr_findings.proofs.SectorRuns.{lines, lines_join, same_rule}
use Rattle.btr_findings.proofs.found.both.Goals as goal

pub returns-clause-findings : goal.returns-clause-findings
returns-clause-findings c =
    let run = c.args.run.now in
    let more = c.args.more.now in
    let tests : is_rule run.rule more.rule ≡ true = search rules in
    lines_join run.rule run.first run.count more.count
    ∙ ap (λ l. lines run.rule run.first run.count ++ l) (ap (λ n. lines run.rule n more.count) c.if-run-more.false
    ∙ ap (λ rule. lines rule more.first more.count) (same_rule run.rule more.rule tests))
