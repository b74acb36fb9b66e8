use Rattle.std.proofs.Common.{◌≡◌, ◌∷◌, [], ◌&&◌, eqb, get_or, ◌∙◌}
use Rattle.std.specs.List.{list_any}
use Rattle.btr_findings.specs.declared.kind.Kind.TheVariants as kind
use Rattle.btr_findings.specs.Findings.{unless, found}
use Rattle.btr_check_space.specs.Groups.{chunk_group}
use Rattle.btr_check_space.specs.declared.group.Group.{Group}
use Rattle.btr_check_space.specs.declared.span.Span.{Span}
use Rattle.btr_check_space.proofs.Found.{span_found}
use Rattle.btr_check_space.proofs.Put.{adds_row, unless_same}
use Rattle.btr_check_space.proofs.groups.put_chunk_groups.Goals as goal

abbrev nothing : Span
nothing = record { start = 0; len = 0; flags = 0 }

pub loop-chunk-preserved : goal.loop-chunk-preserved
loop-chunk-preserved c =
    let groups = c.args.groups.now in
    let chunks = c.args.chunks.now in
    let i = c.loop-chunk.chunk-index in
    let chunk : Span = get_or chunks i nothing in
    let test = list_any (λ (group : Group). (eqb group.start chunk.start && eqb group.len chunk.len) && eqb group.flags chunk.flags) groups in
    let tests : c.contains.result ≡ test = c.contains.ensures ∙ span_found groups c.in_ok-spans.spans chunk c.in_ok-spans.ensures in
    adds_row (chunk_group groups) chunks i nothing c.args.found.now c.loop-chunk.found c.put_unless.new.found (unless c.contains.result c.new.result)
    c.loop-chunk-test.true
    (unless_same c.contains.result test c.new.result (found kind.ChunkGroup (chunk.start ∷ [])) tests c.new.ensures)
    c.loop-chunk.invariant c.in_ok-put_unless.ensures
