use Rattle.std.proofs.Common.{◌+◌, ◌++◌, ◌∷◌, [], map, refl, sym, ap, ◌∙◌}
use Rattle.btr_check_space.specs.Orders.{chunk_span}
use Rattle.btr_check_space.proofs.Nexts.{left_from, met_none, met_more, met_all, nearer}
use Rattle.btr_check_space.proofs.chunks.spans_of.Goals as goal

pub loop-chunk-init : goal.loop-chunk-init
loop-chunk-init c =
    ap (λ l. l ++ map chunk_span (left_from 0 c.args.chunks.now)) c.in_ok-spans.ensures
    ∙ met_none (map chunk_span) (λ chunk. chunk_span chunk ∷ []) (λ chunk chunks. refl) c.args.chunks.now

pub loop-chunk-smaller : goal.loop-chunk-smaller
loop-chunk-smaller c = nearer c.args.chunks.now c.loop-chunk.from c.in-Some.chunk.now c.in-Some.ensures.sound (sym c.in-Some.ensures.chunk)

pub loop-chunk-preserved : goal.loop-chunk-preserved
loop-chunk-preserved c =
    let chunks = c.args.chunks.now in
    let chunk = c.in-Some.chunk.now in
    ap (λ l. l ++ map chunk_span (left_from (chunk.start + 1) chunks)) c.in_ok-push.ensures
    ∙ met_more (map chunk_span) (λ chunk. chunk_span chunk ∷ []) (λ chunk chunks. refl) chunks c.loop-chunk.from chunk c.loop-chunk.spans.items
    (map chunk_span chunks) c.count.ensures.table (sym c.in-Some.ensures.chunk) c.loop-chunk.invariant

pub returns : goal.returns
returns c = met_all (map chunk_span) (λ chunk. chunk_span chunk ∷ []) (λ chunk chunks. refl) c.args.chunks.now c.loop-chunk.from
    c.loop-chunk.spans.items (map chunk_span c.args.chunks.now) refl (sym c.in_default.ensures.chunk) c.loop-chunk.invariant
