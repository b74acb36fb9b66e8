use Rattle.std.proofs.Common.{◌≡◌, ◌++◌, List, ap, ◌∙◌, rules}
use Rattle.btr_findings.specs.declared.finding.Finding.{Finding}
use Rattle.btr_findings.specs.Findings.{in_order}
use Rattle.btr_findings.specs.Sectors.{runs_findings}
use Rattle.btr_findings.proofs.Sets.{same_findings}
use Rattle.btr_findings.proofs.Setting.{if_ok}
use Rattle.btr_findings.proofs.found.Found.list.Goals as goal

pub returns-in-Ok : goal.returns-in-Ok
returns-in-Ok c = λ findings just.
    let runs = c.self.inside.runs.items in
    let all : c.in-Ok.single.items ≡ c.self.inside.single.keys = search rules in
    let same : in_order (c.in-Ok.single.items ++ runs_findings runs) ≡ in_order findings =
    ap (λ (l : List Finding). in_order (l ++ runs_findings runs)) all ∙ ap in_order c.self.view_is ∙ same_findings c.args.self findings just in
    if_ok c.of.result (λ (list : List Finding). list ≡ in_order (c.in-Ok.single.items ++ runs_findings runs))
    (λ (list : List Finding). list ≡ in_order findings) (λ list is. is ∙ same) c.of.ensures
