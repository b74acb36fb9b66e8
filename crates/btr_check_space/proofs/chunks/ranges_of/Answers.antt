use Rattle.std.proofs.Common.{◌+◌, ◌++◌, refl, sym, ap, ◌∙◌}
use Rattle.btr_check_space.specs.Devices as words
use Rattle.btr_check_space.proofs.Nexts.{left_from, met_none, met_more, met_all, nearer}
use Rattle.btr_check_space.proofs.chunks.ranges_of.Goals as goal

pub loop-chunk-init : goal.loop-chunk-init
loop-chunk-init c =
    ap (λ l. l ++ words.ranges_of (left_from 0 c.args.chunks.now)) c.in_ok-ranges.ensures
    ∙ met_none words.ranges_of words.chunk_ranges (λ chunk chunks. refl) c.args.chunks.now

pub loop-chunk-smaller : goal.loop-chunk-smaller
loop-chunk-smaller c = nearer c.args.chunks.now c.loop-chunk.from c.in-Some.chunk.now c.in-Some.ensures.sound (sym c.in-Some.ensures.chunk)

pub loop-chunk-preserved : goal.loop-chunk-preserved
loop-chunk-preserved c =
    let chunks = c.args.chunks.now in
    let chunk = c.in-Some.chunk.now in
    ap (λ l. l ++ words.ranges_of (left_from (chunk.start + 1) chunks)) c.in_ok-add_ranges.ensures
    ∙ met_more words.ranges_of words.chunk_ranges (λ chunk chunks. refl) chunks c.loop-chunk.from chunk c.loop-chunk.ranges.items
    (words.ranges_of chunks) c.count.ensures.table (sym c.in-Some.ensures.chunk) c.loop-chunk.invariant

pub returns : goal.returns
returns c = met_all words.ranges_of words.chunk_ranges (λ chunk chunks. refl) c.args.chunks.now c.loop-chunk.from c.loop-chunk.ranges.items
    (words.ranges_of c.args.chunks.now) refl (sym c.in_default.ensures.chunk) c.loop-chunk.invariant
