use Rattle.std.proofs.Common.{◌≡◌, ℕ, ◌+◌, ◌≤◌, length, drop, slice_get, Some, Ok, Err, refl, sym, ap, ◌∙◌, subst, arith}
use Rattle.std.proofs.lemmas.List.{drop_all}
use Rattle.btr_scrub.proofs.Common.{CanSift, HasPassed, Layout, Meeting, Return, Span, Super, in_chunk, in_chunks, scene}
use Rattle.btr_scrub.specs.Sifting.{Sieves}
use Rattle.btr_scrub.proofs.Chunkwise.{chunk_first, contains_at, span_in}
use Rattle.btr_scrub.proofs.Gathering.{gathers_value, reaches_ends, reaches_none, reaches_step, same_self, same_then}
use Rattle.btr_scrub.proofs.Sieved.{sieves_halt, sieves_ok, sieves_passed, stands_as}
use Rattle.btr_scrub.proofs.chunks.sift_chunks.Goals as goal

pub loop-i-init : goal.loop-i-init
loop-i-init g c = record {
  ready = c.requires.ready;
  volume = same_self c.args.vol.now;
  can = c.requires.can;
  behind = λ chunk there. omega (arith, c.requires.begins);
  kind = c.requires.kind;
  reaches = λ whole stands. (
    whole,
    reaches_none (in_chunks c.args.vol.now.sup c.args.trees.now.sums c.args.trees.now.extents c.args.vol.now.store.layout.chunks)
        (scene (g.R.Rack.seen c.args.rack.now) c.args.vol.now whole) stands.is_whole c.requires.ready.serves,
    stands,
  );
}

pub sift_chunk-requires-clause-chunk : goal.sift_chunk-requires-clause-chunk
sift_chunk-requires-clause-chunk g c = span_in c.args.vol.now.store.layout c.loop-i.vol.store.layout c.loop-i.i c.span_at-span.result
    c.loop-i.invariant.volume.store.layout c.span_at-span.ensures

pub sift_chunk-requires-clause-can : goal.sift_chunk-requires-clause-can
sift_chunk-requires-clause-can g c = rw c.loop-i.invariant.volume.store.layout c.loop-i.invariant.can

pub sift_chunk-requires-clause-behind : goal.sift_chunk-requires-clause-behind
sift_chunk-requires-clause-behind g c =
    let at = c.span_at-span.ensures in
    let there = subst (λ (l : Layout). slice_get l.chunks c.loop-i.i ≡ Some at.chunk) c.loop-i.invariant.volume.store.layout at.at in
    let start = ap (λ (s : Span). s.start) at.is in
    omega (arith, c.loop-i.invariant.behind at.chunk there, start)

pub returns-in_err-sift_chunk-clause-sieves : goal.returns-in_err-sift_chunk-clause-sieves
returns-in_err-sift_chunk-clause-sieves g c whole stands =
    let s = c.args.vol.now.sup in
    let sums = c.args.trees.now.sums in
    let i = c.loop-i.i in
    let chunks = c.args.vol.now.store.layout.chunks in
    let extents = c.args.trees.now.extents in
    let at = c.span_at-span.ensures in
    let h = c.loop-i.invariant.reaches whole stands in
    let x = scene (g.R.Rack.seen c.args.rack.now) c.args.vol.now whole in
    let y = scene (g.R.Rack.seen c.loop-i.rack) c.loop-i.vol h.0 in
    let z = g.R.Rack.seen c.sift_chunk.new.rack in
    let here = in_chunk s sums at.chunk extents in
    let rest = λ (n : ℕ). in_chunks s sums extents (drop (i + 1) chunks) in
    let there = subst (λ (l : Layout). slice_get l.chunks i ≡ Some at.chunk) c.loop-i.invariant.volume.store.layout at.at in
    sieves_passed c.from_residual.ensures.1 (sieves_halt here rest
    (subst (λ (q : Meeting (Unit {0})). HasPassed (in_chunks s sums extents chunks) q x y) (chunk_first s sums extents chunks i at.chunk there) h.1)
    (subst (λ (t : Super). Sieves (in_chunk t sums at.chunk extents) y z c.sift_chunk.new.vol c.sift_chunk.new.sieve
    (Err c.in_err-sift_chunk.field-0.0)) c.loop-i.invariant.volume.sup
    (c.in_err-sift_chunk.ensures.sieves at.chunk h.0 at.is (contains_at c.loop-i.vol.store.layout.chunks i at.chunk at.at) h.2)))

pub loop-i-preserved : goal.loop-i-preserved
loop-i-preserved g c = record {
  ready = c.in_ok-sift_chunk.ensures.ready;
  volume = same_then c.loop-i.invariant.volume c.in_ok-sift_chunk.ensures.volume;
  can = subst (λ (l : Layout). CanSift l c.sift_chunk.new.sieve.sifted) c.loop-i.invariant.volume.store.layout c.in_ok-sift_chunk.ensures.can;
  behind = λ chunk there.
      let at = c.span_at-span.ensures in
      let layout = c.args.vol.now.store.layout in
      let here = subst (λ (l : Layout). slice_get l.chunks c.loop-i.i ≡ Some at.chunk) c.loop-i.invariant.volume.store.layout at.at in
      let apart = (c.requires.ready.table.apart c.loop-i.i (c.loop-i.i + 1) at.chunk chunk (omega arith) here there).0 in
      let start = ap (λ (s : Span). s.start) at.is in
      let length = ap (λ (s : Span). s.length) at.is in
      omega (arith, c.in_ok-sift_chunk.ensures.end, apart, start, length);
  kind = c.in_ok-sift_chunk.ensures.kind ∙ c.loop-i.invariant.kind;
  reaches = λ whole stands.
      let s = c.args.vol.now.sup in
      let sums = c.args.trees.now.sums in
      let i = c.loop-i.i in
      let chunks = c.args.vol.now.store.layout.chunks in
      let extents = c.args.trees.now.extents in
      let at = c.span_at-span.ensures in
      let h = c.loop-i.invariant.reaches whole stands in
      let x = scene (g.R.Rack.seen c.args.rack.now) c.args.vol.now whole in
      let y = scene (g.R.Rack.seen c.loop-i.rack) c.loop-i.vol h.0 in
      let z = g.R.Rack.seen c.sift_chunk.new.rack in
      let here = in_chunk s sums at.chunk extents in
      let rest = λ (n : ℕ). in_chunks s sums extents (drop (i + 1) chunks) in
      let there = subst (λ (l : Layout). slice_get l.chunks i ≡ Some at.chunk) c.loop-i.invariant.volume.store.layout at.at in
      let one = subst (λ (t : Super). Sieves (in_chunk t sums at.chunk extents) y z c.sift_chunk.new.vol c.sift_chunk.new.sieve
      (Ok c.in_ok-sift_chunk.field-0)) c.loop-i.invariant.volume.sup
      (c.in_ok-sift_chunk.ensures.sieves at.chunk h.0 at.is (contains_at c.loop-i.vol.store.layout.chunks i at.chunk at.at) h.2) in (
        one.went.0,
        reaches_step (in_chunks s sums extents chunks) here rest x y
            (subst (λ (q : Meeting (Unit {0})). HasPassed (in_chunks s sums extents chunks) q x y) (chunk_first s sums extents chunks i at.chunk there) h.1)
            (scene z c.sift_chunk.new.vol one.went.0) c.in_ok-sift_chunk.field-0 one.went.1,
        stands_as c.in_ok-sift_chunk.ensures.volume.store.layout refl one.went.2,
      );
}

pub returns-clause-sieves : goal.returns-clause-sieves
returns-clause-sieves g c whole stands =
    let s = c.args.vol.now.sup in
    let sums = c.args.trees.now.sums in
    let i = c.loop-i.i in
    let layout = c.args.vol.now.store.layout in
    let extents = c.args.trees.now.extents in
    let rack = g.R.Rack.seen c.loop-i.rack in
    let h = c.loop-i.invariant.reaches whole stands in
    let x = scene (g.R.Rack.seen c.args.rack.now) c.args.vol.now whole in
    let y = scene rack c.loop-i.vol h.0 in
    let p = in_chunks s sums extents layout.chunks in
    let few : length layout.chunks ≤ i = omega (arith, c.loop-i-test.false, c.count-i-end.ensures.count, ap length c.chunks.ensures) in
    let none = ap (in_chunks s sums extents) (drop_all i layout.chunks few) in
    sieves_ok {a = tt} (reaches_ends p (Return tt) x y y (Ok tt) (subst (λ (q : Meeting (Unit {0})). HasPassed p q x y) none h.1)
    (gathers_value tt y h.2.is_whole c.loop-i.invariant.ready.serves))
    (stands_as (sym c.loop-i.invariant.volume.store.layout) refl h.2)
