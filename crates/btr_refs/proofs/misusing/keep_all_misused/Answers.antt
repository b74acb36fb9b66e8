use Rattle.std.proofs.Common.{◌≡◌, ◌∙◌, ap}
use Rattle.btr_findings.proofs.Adding.{on_ok}
use Rattle.btr_refs.proofs.Extents.{wrong, wrong_there}
use Rattle.btr_refs.specs.Misusing.{with_findings}
use Rattle.btr_refs.proofs.misusing.keep_all_misused.Goals as goal

pub returns : goal.returns
returns c =
    let old = c.args.findings.now.keys in
    let new = c.keep_each.new.findings.keys in
    let wrong_in = wrong c.args.nodesize c.args.addr c.args.used in
    on_ok c.keep_each.result (new ≡ with_findings old (wrong_in c.at.result.now)) (new ≡ with_findings old (wrong_in c.args.extents.now))
    (λ is. is ∙ ap (with_findings old) (wrong_there c.args.nodesize c.args.addr c.args.used c.at.result.now c.args.extents.now c.at.ensures))
    c.keep_each.ensures
