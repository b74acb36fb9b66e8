use Rattle.std.proofs.Common.{◌≡◌, ap, ◌∙◌}
use Rattle.btr_check_space.specs.Groups.{group_findings}
use Rattle.btr_findings.proofs.Adding.{adds_as, adds_then}
use Rattle.btr_refs.specs.Differences.{total_findings}
use Rattle.btr_refs.specs.Extents.{KeptExtents}
use Rattle.btr_check.proofs.references.put_collected.Goals as goal

pub returns-clause-found : goal.returns-clause-found
returns-clause-found c =
    let both = c.args.both in
    let chunks = c.args.vol.now.store.layout.chunks in
    let bytes = c.args.vol.now.sup.bytes_used in
    let stored = c.in_ok-stored.stored in
    let a = c.args.found.now in
    let b = c.put_total_findings.new.found in
    let d = c.put_groups.new.found in
    let is : stored ≡ both.first = c.in_ok-stored.ensures in
    adds_then (total_findings both.first.extents both.first.refs) (group_findings chunks both.first.extents both.second bytes) a b d
    (adds_as (total_findings stored.extents stored.refs) (total_findings both.first.extents both.first.refs) a b
    (λ i. total_findings (is i).extents (is i).refs) c.in_ok-put_total_findings.ensures)
    (adds_as (group_findings chunks c.extents.result.now both.second bytes) (group_findings chunks both.first.extents both.second bytes) b d
    (λ i. group_findings chunks ((c.extents.ensures ∙ ap (λ (k : KeptExtents). k.extents) is) i) both.second bytes) c.in_ok-put_groups.ensures)
