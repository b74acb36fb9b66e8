use Rattle.std.proofs.Common.{◌≡◌, ◌+◌, ◌<◌, ◌≤◌, ◌^◌, Some, slice_get, sym, subst, arith}
use Rattle.btr_scrub.proofs.Common.{Span, facts}
use Rattle.btr_scrub.proofs.chunks.span_at.Goals as goal

pub returns : goal.returns
returns c =
    let f = facts c.at.result.now c.at.ensures.sound in
    record {
      chunk = c.at.result.now;
      at = subst (λ cs. slice_get cs c.args.i ≡ Some c.at.result.now) c.chunks.ensures c.at.ensures.chunk;
      is = c.span_of.ensures;
      range = subst (λ (s : Span). s.start + s.length < 2 ^ 64) (sym c.span_of.ensures) f.in_range;
      some = subst (λ (s : Span). 1 ≤ s.length) (sym c.span_of.ensures) (omega (arith, f.some));
    }
