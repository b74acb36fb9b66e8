use Rattle.std.proofs.Common.{OnOk, subst}
use Rattle.std.proofs.lemmas.Result.{on_ok_weaker}
use Rattle.btr_findings.specs.Findings.{Adds}
use Rattle.btr_check_names.specs.Subvolumes.{Subvolumes, subvolume_findings}
use Rattle.btr_check_names.proofs.Together.{both_added}
use Rattle.btr_check_names.proofs.put_subvolumes.put_subvolume_findings.Goals as goal

pub returns : goal.returns
returns c =
    let fields = c.names.inside in
    let names : Subvolumes = record { refs = fields.refs; backrefs = fields.backrefs; entries = fields.entries } in
    subst (λ (n : Subvolumes). OnOk c.put_names-2.result (Adds (subvolume_findings n) c.args.found.now c.put_names-2.new.found)) c.names.view_is
    (on_ok_weaker c.put_names-2.result
    (both_added names c.args.found.now c.put_names.new.found c.put_names-2.new.found
    (c.in_ok-put_names.ensures names c.in_ok-names_of.ensures c.in_ok-names_of-2.ensures c.in_ok-names_of-3.ensures))
    (c.put_names-2.ensures names c.in_ok-names_of.ensures c.in_ok-names_of-2.ensures c.in_ok-names_of-3.ensures))
