use Rattle.std.proofs.Common.{sym, ◌∙◌, arith}
use Rattle.btr_scrub_row.proofs.Common.{Stripe, flagged, is_doubtful, slice_get_within}
use Rattle.btr_chunk.proofs.Searches.{list_any-false, list_any-true}
use Rattle.btr_scrub_row.proofs.doubts.has_doubtful.Goals as goal

pub returns-then-is_doubtful : goal.returns-then-is_doubtful
returns-then-is_doubtful c =
    sym (list_any-true (λ (stripe : Stripe). is_doubtful c.args.store.now.layout.devices (flagged c.args.failing.now) stripe.devid) c.args.chunk.now.stripes
    c.loop-i.i c.at.result c.at.ensures (sym c.is_doubtful.ensures ∙ c.if-is_doubtful.true))

pub returns : goal.returns
returns c =
    sym (list_any-false (λ (stripe : Stripe). is_doubtful c.args.store.now.layout.devices (flagged c.args.failing.now) stripe.devid) c.args.chunk.now.stripes
    (λ j stripe e.
    c.loop-i.invariant j stripe (omega (arith, slice_get_within c.args.chunk.now.stripes j stripe e, c.loop-i-test.false, c.len-i-end.ensures)) e))
