use Rattle.std.proofs.Common.{sym, ◌∙◌, arith}
use Rattle.btr_scrub.proofs.Common.{list_any-false, list_any-true, slice_get_within}
use Rattle.btr_chunk.specs.declared.stripe.Stripe.{Stripe}
use Rattle.btr_scrub.specs.Judged.{is_older}
use Rattle.btr_scrub.proofs.doubts.has_older.Goals as goal

pub returns-then-is_older : goal.returns-then-is_older
returns-then-is_older c =
    sym (list_any-true (λ (stripe : Stripe). is_older c.args.store.now.layout.devices stripe.devid) c.args.chunk.now.stripes
    c.loop-i.i c.at.result c.at.ensures (sym c.is_older.ensures ∙ c.if-is_older.true))

pub returns : goal.returns
returns c =
    sym (list_any-false (λ (stripe : Stripe). is_older c.args.store.now.layout.devices stripe.devid) c.args.chunk.now.stripes (λ j stripe e.
    c.loop-i.invariant j stripe (omega (arith, slice_get_within c.args.chunk.now.stripes j stripe e, c.loop-i-test.false, c.len-i-end.ensures)) e))
