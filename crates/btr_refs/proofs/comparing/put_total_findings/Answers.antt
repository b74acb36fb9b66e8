use Rattle.std.proofs.Common.{◌≡◌, ◌∙◌, List, ap, subst, sym}
use Rattle.btr_findings.proofs.Adding.{on_ok}
use Rattle.btr_findings.specs.Findings.{Adds, PutsRows, has}
use Rattle.btr_findings.specs.declared.extent.Extent.{Extent}
use Rattle.btr_refs.specs.Counts.{RefCounts}
use Rattle.btr_refs.specs.Differences.{PutsAlone, ref_total, total_findings}
use Rattle.btr_refs.specs.Extents.{KeptExtents}
use Rattle.btr_refs.specs.Listed.{entries_of}
use Rattle.btr_refs.proofs.Rows.{total_rows}
use Rattle.btr_refs.proofs.comparing.put_total_findings.Goals as goal

pub returns : goal.returns
returns c =
    let refs = c.refs-refs.result.now in
    let extents = c.stored.inside.extents in
    let stored = c.args.stored.now in
    let a = c.args.found.now in
    let b = c.put_ref_totals.new.found in
    let d = c.put_ref_alone.new.found in
    let same : stored.extents ≡ extents = sym (ap (λ (k : KeptExtents). k.extents) c.stored.view_is) in
    let first : PutsRows (ref_total (entries_of refs)) extents a b =
    subst (λ l. PutsRows (ref_total (entries_of refs)) l a b) (c.extents.ensures ∙ same) c.in_ok-put_ref_totals.ensures in
    on_ok c.put_ref_alone.result (PutsAlone refs extents b d) (Adds (total_findings stored.extents stored.refs) a d)
    (λ second. subst (λ (l : List Extent). Adds (total_findings l stored.refs) a d) (sym same)
    (subst (λ (counts : RefCounts). Adds (total_findings extents counts) a d) c.refs-refs.ensures.same
    (λ one. total_rows refs extents one (has a one) (has b one) (has d one) (first one) (second one))))
    c.put_ref_alone.ensures
