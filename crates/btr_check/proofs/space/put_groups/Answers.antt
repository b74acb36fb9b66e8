use Rattle.std.proofs.Common.{◌≡◌}
use Rattle.btr_check_space.specs.Groups.{group_findings}
use Rattle.btr_findings.proofs.Adding.{adds_as, on_ok}
use Rattle.btr_findings.specs.Findings.{Adds}
use Rattle.btr_check.proofs.space.put_groups.Goals as goal

pub returns : goal.returns
returns c =
    let a = c.args.found.now in
    let b = c.put_group_findings.new.found in
    let vol = c.args.vol.now in
    let extents = c.args.extents.now in
    let put = group_findings c.chunks-chunks.result.now extents c.as_slice-groups.result.now vol.sup.bytes_used in
    let all = group_findings vol.store.layout.chunks extents c.args.groups.now vol.sup.bytes_used in
    on_ok c.put_group_findings.result (Adds put a b) (Adds all a b)
    (adds_as put all a b (λ i. group_findings (c.chunks-chunks.ensures i) extents (c.as_slice-groups.ensures i) vol.sup.bytes_used))
    c.put_group_findings.ensures
