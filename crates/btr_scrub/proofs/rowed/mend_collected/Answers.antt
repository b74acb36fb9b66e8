use Rattle.std.proofs.Common.{length, sym, ap, ◌∙◌}
use Rattle.btr_scrub.proofs.Common.{alone, counted_row, take_at, untouched}
use Rattle.btr_scrub.proofs.InertRows.{inert_counts, inert_writes, sought_in_row}
use Rattle.btr_scrub.proofs.OneRow.{has_room, row_left, scrubs_row, scrubs_row_not}
use Rattle.btr_scrub.proofs.Scrubbing.{can_mend_then, scrubs_as, scrubs_idle, scrubs_passed}
use Rattle.btr_scrub.proofs.rowed.mend_collected.Goals as goal

pub mend_row-requires-clause-room : goal.mend_row-requires-clause-room
mend_row-requires-clause-room g c row is = has_room c.args.store.now.layout c.args.room.now.buffer c.args.at.chunk c.args.at.number c.deref-2.result.now
    row c.requires.rooms is

pub returns-clause-rooms : goal.returns-clause-rooms
returns-clause-rooms g c i chunk at none = c.in_ok-mended.ensures.room (length chunk.stripes) (c.requires.rooms i chunk at none)

pub returns-in_err-mended-clause-rooms : goal.returns-in_err-mended-clause-rooms
returns-in_err-mended-clause-rooms g c i chunk at none = c.in_err-mended.ensures.room (length chunk.stripes) (c.requires.rooms i chunk at none)

pub returns-then-is_inert-clause-scrubs : goal.returns-then-is_inert-clause-scrubs
returns-then-is_inert-clause-scrubs g c r is fails =
    let layout = c.args.store.now.layout in
    let table = c.requires.ready.table in
    let tally = c.args.progress.now.tally in
    let inert = (rw c.deref.ensures.value at (c.is_inert.ensures c.if-is_inert.true)) r is fails in
    let lie = sought_in_row layout c.args.at.chunk c.args.at.number c.args.room.now.wants.items r is in
    rw (c.counted_row-progress.ensures ∙ ap (counted_row tally) c.untouched.ensures)
    (scrubs_as (alone layout r.chunk) c.args.task.write (scrubs_idle (alone layout r.chunk) c.args.task.write (λ t. counted_row t untouched)
    c.args.progress.now.marks.items (g.R.Rack.seen c.args.rack.now) tally tt) (λ images e. (
      sym (inert_writes layout table r lie is.stripe.parity inert images),
      sym (ap (counted_row tally) (inert_counts layout table r lie is.stripe.parity inert images c.args.task.write)),
    )))

pub returns-clause-scrubs : goal.returns-clause-scrubs
returns-clause-scrubs g c r is fails =
    let long = c.mend_row.auto.marks ∙ c.deref_mut.ensures.len in
    rw (take_at, sym c.deref_mut.ensures.value) (scrubs_row c.requires.ready.table is.stripe
    ((rw c.deref-2.ensures.value at c.in_ok-mended.ensures.mends) r is fails) c.counted_row-progress-2.ensures)

pub returns-in_err-mended-clause-scrubs : goal.returns-in_err-mended-clause-scrubs
returns-in_err-mended-clause-scrubs g c r is fails =
    let long = c.mend_row.auto.marks ∙ c.deref_mut.ensures.len in
    rw (take_at, sym c.deref_mut.ensures.value) (scrubs_passed c.from_residual.ensures.1
    (scrubs_row_not c.requires.ready.table is.stripe ((rw c.deref-2.ensures.value at c.in_err-mended.ensures.mends) r is fails)))

pub returns-clause-ready : goal.returns-clause-ready
returns-clause-ready g c =
    let long = c.mend_row.auto.marks ∙ c.deref_mut.ensures.len in
    rw take_at (can_mend_then c.args.task.write (g.R.Rack.seen c.args.rack.now) (g.R.Rack.seen c.mend_row.new.rack) c.args.store.now c.mend_row.new.store
    c.args.progress.now.marks.items c.mend_row.new.marks c.requires.ready (row_left c.args.task.failing.now c.requires.row
    (rw c.deref-2.ensures.value at c.in_ok-mended.ensures.mends)).0
    c.in_ok-mended.ensures.loans c.in_ok-mended.ensures.serves (c.mend_row.auto.marks ∙ ap length c.deref_mut.ensures.value))

pub returns-in_err-mended-clause-ready : goal.returns-in_err-mended-clause-ready
returns-in_err-mended-clause-ready g c =
    let long = c.mend_row.auto.marks ∙ c.deref_mut.ensures.len in
    rw take_at (can_mend_then c.args.task.write (g.R.Rack.seen c.args.rack.now) (g.R.Rack.seen c.mend_row.new.rack) c.args.store.now c.mend_row.new.store
    c.args.progress.now.marks.items c.mend_row.new.marks c.requires.ready (row_left c.args.task.failing.now c.requires.row
    (rw c.deref-2.ensures.value at c.in_err-mended.ensures.mends)).0
    c.in_err-mended.ensures.loans c.in_err-mended.ensures.serves (c.mend_row.auto.marks ∙ ap length c.deref_mut.ensures.value))
