use Rattle.std.proofs.Common.{◌≡◌, ◌++◌, List, map, filter_map, option_to_list, ap, ◌∙◌}
use Rattle.std.proofs.lemmas.Result.{on_ok_weaker}
use Rattle.btr_findings.proofs.Adding.{adds_then, adds_as}
use Rattle.btr_findings.specs.Findings.{Adds}
use Rattle.btr_findings.specs.declared.finding.Finding.{Finding}
use Rattle.btr_check_space.specs.Groups.{outside_group, neighbours, overlap, chunk_group, group_chunk, group_used, total_used}
use Rattle.btr_check_space.specs.Orders.{chunk_span}
use Rattle.btr_check_space.specs.declared.span.Span.{Span}
use Rattle.btr_check_space.proofs.groups.put_group_findings.Goals as goal

pub returns : goal.returns
returns c =
    let extents = c.args.extents.now in
    let groups = c.args.groups.now in
    let spans = map chunk_span c.args.chunks.now in
    let same : c.deref.result.now ≡ spans = c.deref.ensures.value ∙ c.in_ok-spans.ensures in
    let also : c.deref-2.result.now ≡ spans = c.deref-2.ensures.value ∙ c.in_ok-spans.ensures in
    let outside : List Finding = filter_map (outside_group groups) extents in
    let overlaps : List Finding = filter_map overlap (neighbours extents) in
    let chunks : List Finding = filter_map (chunk_group groups) spans in
    let owners : List Finding = filter_map (group_chunk spans) groups in
    let used : List Finding = filter_map (group_used extents) groups in
    let total : List Finding = option_to_list (total_used c.args.bytes_used groups) in
    let old = c.args.found.now in
    let first = c.put_outside.new.found in
    let second = c.put_overlaps.new.found in
    let third = c.put_chunk_groups.new.found in
    let fourth = c.put_group_chunks.new.found in
    let fifth = c.put_group_used.new.found in
    let last = c.put_total_used.new.found in
    let three : Adds chunks second third = adds_as (filter_map (chunk_group groups) c.deref.result.now) chunks second third
    (ap (filter_map (chunk_group groups)) same) c.in_ok-put_chunk_groups.ensures in
    let four : Adds owners third fourth =
    adds_as (filter_map (group_chunk c.deref-2.result.now) groups) owners third fourth
    (ap (λ (list : List Span). filter_map (group_chunk list) groups) also) c.in_ok-put_group_chunks.ensures in
    let front : Adds (outside ++ overlaps ++ chunks ++ owners ++ used) old fifth =
    adds_then (outside ++ overlaps ++ chunks ++ owners) used old fourth fifth
    (adds_then (outside ++ overlaps ++ chunks) owners old third fourth
    (adds_then (outside ++ overlaps) chunks old second third
    (adds_then outside overlaps old first second c.in_ok-put_outside.ensures c.in_ok-put_overlaps.ensures) three) four) c.in_ok-put_group_used.ensures in
    on_ok_weaker c.put_total_used.result (λ more. adds_then (outside ++ overlaps ++ chunks ++ owners ++ used) total old fifth last front more)
    c.put_total_used.ensures
