use Rattle.std.proofs.Common.{◌≡◌, ◌||◌, subst}
use Rattle.std.proofs.lemmas.Result.{on_ok_weaker}
use Rattle.btr_findings.specs.declared.finding.Finding.{Finding}
use Rattle.btr_findings.specs.Findings.{FoundSet, has, is_same}
use Rattle.btr_findings.specs.Runs.{found_set}
use Rattle.btr_findings.proofs.Setting.{single_put}
use Rattle.btr_findings.proofs.found.insert.Goals as goal

pub returns : goal.returns
returns c =
    let runs = c.found.inside.runs.items in
    on_ok_weaker c.insert_single.result
    (λ keys. subst (λ (set : FoundSet). (one : Finding) → has (found_set c.insert_single.new.single runs) one
    ≡ (is_same one c.args.finding || has set one)) c.found.view_is
    (single_put c.found.inside.single c.insert_single.new.single runs c.args.finding keys))
    c.insert_single.ensures
