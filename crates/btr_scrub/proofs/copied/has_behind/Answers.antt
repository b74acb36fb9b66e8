use Rattle.std.proofs.Common.{sym, ◌∙◌, arith}
use Rattle.btr_scrub.proofs.Common.{Stripe, flagged, list_any-false, list_any-true, slice_get_within}
use Rattle.btr_scrub_copies.specs.Fresh.{is_behind}
use Rattle.btr_scrub.proofs.copied.has_behind.Goals as goal

pub returns-then-is_behind : goal.returns-then-is_behind
returns-then-is_behind c =
    sym (list_any-true (λ (stripe : Stripe). is_behind c.args.store.now.layout.devices (flagged c.args.failing.now) stripe.devid) c.args.chunk.now.stripes
    c.loop-i.i c.at.result c.at.ensures (sym c.is_behind.ensures ∙ c.if-is_behind.true))

pub returns : goal.returns
returns c =
    sym (list_any-false (λ (stripe : Stripe). is_behind c.args.store.now.layout.devices (flagged c.args.failing.now) stripe.devid) c.args.chunk.now.stripes
    (λ j stripe e.
    c.loop-i.invariant j stripe (omega (arith, slice_get_within c.args.chunk.now.stripes j stripe e, c.loop-i-test.false, c.len-i-end.ensures)) e))
