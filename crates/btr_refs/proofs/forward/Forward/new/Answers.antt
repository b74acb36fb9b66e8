use Rattle.std.proofs.Common.{◌≡◌, ℕ, List, [], replicate, ◌∙◌, ap}
use Rattle.btr_findings.specs.declared.extent.Extent.{Extent}
use Rattle.btr_refs.specs.Counts.{RefCounts, counted_all}
use Rattle.btr_refs.specs.Extents.{KeptExtents}
use Rattle.btr_refs.specs.Listed.{entries_of, tallied}
use Rattle.btr_refs.proofs.Tallying.{none_times}
use Rattle.btr_refs.proofs.forward.Forward.new.Goals as goal

abbrev kept_as : ℕ → RefCounts → List Extent → KeptExtents
kept_as nodesize refs extents = record { nodesize = nodesize; refs = refs; extents = extents }

pub returns : goal.returns
returns c =
    let refs = c.into_refs-refs.result.items in
    let n = c.len.result in
    let none : tallied refs c.in_ok-times.times.items c.new.result.entries ≡ [] =
    ap (λ times. tallied refs times c.new.result.entries) c.in_ok-times.ensures ∙ ap (tallied refs (replicate n 0)) c.new.ensures.empty
    ∙ ap (counted_all []) (none_times refs n) in
    let stored : KeptExtents = c.args.stored in
    let kept : kept_as c.stored.inside.nodesize (entries_of refs) c.stored.inside.extents ≡ stored =
    ap (λ (counts : RefCounts). kept_as c.stored.inside.nodesize counts c.stored.inside.extents) c.into_refs-refs.ensures.same ∙ c.stored.view_is in
    λ i. record { stored = kept i; uses = record { refs = none i; misused = c.new-2.ensures.empty i } }
