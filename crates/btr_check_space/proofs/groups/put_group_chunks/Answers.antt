use Rattle.std.proofs.Common.{◌≡◌, ◌∷◌, [], ◌&&◌, eqb, get_or, ◌∙◌}
use Rattle.std.specs.List.{list_any}
use Rattle.btr_findings.specs.declared.kind.Kind.TheVariants as kind
use Rattle.btr_findings.specs.Findings.{unless, found}
use Rattle.btr_check_space.specs.Groups.{group_chunk}
use Rattle.btr_check_space.specs.declared.group.Group.{Group}
use Rattle.btr_check_space.specs.declared.span.Span.{Span}
use Rattle.btr_check_space.proofs.Found.{range_found}
use Rattle.btr_check_space.proofs.Put.{adds_row, unless_same}
use Rattle.btr_check_space.proofs.groups.put_group_chunks.Goals as goal

abbrev nothing : Group
nothing = record { start = 0; len = 0; used = 0; flags = 0 }

pub loop-group-preserved : goal.loop-group-preserved
loop-group-preserved c =
    let groups = c.args.groups.now in
    let chunks = c.args.chunks.now in
    let i = c.loop-group.group-index in
    let group : Group = get_or groups i nothing in
    let test = list_any (λ (chunk : Span). eqb chunk.start group.start && eqb chunk.len group.len) chunks in
    let tests : c.contains.result ≡ test = c.contains.ensures ∙ range_found chunks c.in_ok-ranges.ranges group c.in_ok-ranges.ensures in
    adds_row (group_chunk chunks) groups i nothing c.args.found.now c.loop-group.found c.put_unless.new.found (unless c.contains.result c.new.result)
    c.loop-group-test.true
    (unless_same c.contains.result test c.new.result (found kind.GroupChunk (group.start ∷ [])) tests c.new.ensures)
    c.loop-group.invariant c.in_ok-put_unless.ensures
