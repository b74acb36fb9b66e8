use Rattle.std.proofs.Common.{length, slice_get, sym, ap, ◌∙◌, arith}
use Rattle.btr_scrub.proofs.Common.{has_older, list_any-false, list_any-true, slice_get_within}
use Rattle.btr_scrub.proofs.doubts.some_older.Goals as goal

pub returns-then-has_older : goal.returns-then-has_older
returns-then-has_older c =
    let layout = c.args.store.now.layout in
    sym (list_any-true (has_older layout.devices) layout.chunks c.loop-i.i c.at.result.now
    (ap (λ cs. slice_get cs c.loop-i.i) (sym c.chunks-in-loop-i.ensures) ∙ c.at.ensures.chunk) (sym c.has_older.ensures ∙ c.if-has_older.true))

pub returns : goal.returns
returns c =
    let layout = c.args.store.now.layout in
    sym (list_any-false (has_older layout.devices) layout.chunks (λ j chunk e. c.loop-i.invariant j chunk
    (omega (arith, slice_get_within layout.chunks j chunk e, c.loop-i-test.false, c.count-i-end.ensures.count, ap length c.chunks.ensures)) e))
