use Rattle.std.proofs.Common.{length, sym, ap, ◌∙◌}
use Rattle.btr_scrub.proofs.Common.{alone, flagged, is_plain, sought_of, take_at}
use Rattle.btr_scrub_copies.proofs.Doing.{only_slots}
use Rattle.btr_scrub.proofs.Positions.{copy_in_stripe, is_sought}
use Rattle.btr_scrub.proofs.Scrubbing.{can_mend_then, scrubs_not, scrubs_passed, scrubs_site}
use Rattle.btr_scrub.proofs.copied.mend_site.Goals as goal

pub returns-clause-ready : goal.returns-clause-ready
returns-clause-ready g c =
    let long = c.mend_want.auto.marks ∙ c.deref_mut.ensures.len in
    let does = (c.in_ok-mended.ensures.mends c.requires.copied.target c.requires.copied.is_sought).does in
    rw take_at (can_mend_then c.args.task.write (g.R.Rack.seen c.args.rack.now) (g.R.Rack.seen c.mend_want.new.rack) c.args.store.now
    c.mend_want.new.store c.args.progress.now.marks.items c.mend_want.new.marks c.requires.ready (only_slots does.ranges does.only)
    c.in_ok-mended.ensures.loans c.in_ok-mended.ensures.serves (c.mend_want.auto.marks ∙ ap length c.deref_mut.ensures.value))

pub returns-clause-scrubs : goal.returns-clause-scrubs
returns-clause-scrubs g c t e =
    let layout = c.args.store.now.layout in
    let long = c.mend_want.auto.marks ∙ c.deref_mut.ensures.len in
    rw (take_at, sym c.deref_mut.ensures.value)
    (scrubs_site (alone layout t.chunk) (flagged c.args.task.failing.now) t
    (λ range of. copy_in_stripe layout t range c.requires.ready.table (is_sought layout c.args.want.now t e) of) (c.in_ok-mended.ensures.mends t e)
    (rw (ap is_plain (sought_of layout c.args.want.now t e).want_is) c.counted_site-progress.ensures))

pub returns-in_err-mended-clause-ready : goal.returns-in_err-mended-clause-ready
returns-in_err-mended-clause-ready g c =
    let long = c.mend_want.auto.marks ∙ c.deref_mut.ensures.len in
    let does = (c.in_err-mended.ensures.mends c.requires.copied.target c.requires.copied.is_sought).does in
    rw take_at (can_mend_then c.args.task.write (g.R.Rack.seen c.args.rack.now) (g.R.Rack.seen c.mend_want.new.rack) c.args.store.now
    c.mend_want.new.store c.args.progress.now.marks.items c.mend_want.new.marks c.requires.ready (only_slots does.ranges does.only)
    c.in_err-mended.ensures.loans c.in_err-mended.ensures.serves (c.mend_want.auto.marks ∙ ap length c.deref_mut.ensures.value))

pub returns-in_err-mended-clause-scrubs : goal.returns-in_err-mended-clause-scrubs
returns-in_err-mended-clause-scrubs g c t e =
    let layout = c.args.store.now.layout in
    let long = c.mend_want.auto.marks ∙ c.deref_mut.ensures.len in
    rw (take_at, sym c.deref_mut.ensures.value)
    (scrubs_passed c.from_residual.ensures.1 (scrubs_not (alone layout t.chunk) (flagged c.args.task.failing.now) t
    (λ range of. copy_in_stripe layout t range c.requires.ready.table (is_sought layout c.args.want.now t e) of) (c.in_err-mended.ensures.mends t e)))
