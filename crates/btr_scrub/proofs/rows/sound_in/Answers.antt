use Rattle.std.proofs.Common.{◌≡◌, ℕ, [], false, Option, None, length, sym, ◌∙◌, refl}
use Rattle.btr_scrub.proofs.Common.{MendedRow, err_from_is_err_and, mended_row}
use Rattle.btr_scrub.specs.Sifting.{sound_in}
use Rattle.btr_scrub.proofs.OneRow.{has_room, row_left}
use Rattle.btr_scrub.proofs.Scrubbing.{can_mend_then, tell, told}
use Rattle.btr_scrub.proofs.SiftedRows.{plain_needed, read_needed, row_account}
use Rattle.btr_scrub.proofs.rows.sound_in.Goals as goal

pub mend_row-requires-clause-room : goal.mend_row-requires-clause-room
mend_row-requires-clause-room g c row is = has_room c.args.store.now.layout c.args.room.now.buffer c.args.at.chunk c.args.at.number c.deref-2.result.now
    row c.requires.rooms is

pub returns-then-has_plain-clause-sound : goal.returns-then-has_plain-clause-sound
returns-then-has_plain-clause-sound g c r is fails =
    let layout = c.args.store.now.layout in
    tell (g.R.Rack.seen c.args.rack.now).held (λ images. None ≡ sound_in images layout r) (λ images h. plain_needed images layout c.args.room.now.wants.items r
    is.blocks (rw c.deref.ensures.value at (sym c.has_plain.ensures ∙ c.if-has_plain.true)))

pub returns-clause-rooms : goal.returns-clause-rooms
returns-clause-rooms g c i chunk at none = c.in_ok-mended.ensures.room (length chunk.stripes) (c.requires.rooms i chunk at none)

pub returns-in_err-mended-clause-rooms : goal.returns-in_err-mended-clause-rooms
returns-in_err-mended-clause-rooms g c i chunk at none = c.in_err-mended.ensures.room (length chunk.stripes) (c.requires.rooms i chunk at none)

pub returns-clause-sound : goal.returns-clause-sound
returns-clause-sound g c r is fails =
    let layout = c.args.store.now.layout in
    let held = (g.R.Rack.seen c.args.rack.now).held in
    let mends = (rw c.deref-2.ensures.value at c.in_ok-mended.ensures.mends) r is fails in
    tell held (λ images. c.sound_of.result ≡ sound_in images layout r) (λ images h. c.sound_of.ensures
    ∙ read_needed images layout c.args.room.now.wants.items r c.in_ok-mended.mended is.blocks
    (rw c.deref.ensures.value at (sym c.has_plain.ensures ∙ c.if-has_plain.false))
    (told held (λ images. c.in_ok-mended.mended ≡ mended_row images layout r false) images h mends.counts))

pub returns-clause-ready : goal.returns-clause-ready
returns-clause-ready g c =
    can_mend_then false (g.R.Rack.seen c.args.rack.now) (g.R.Rack.seen c.mend_row.new.rack) c.args.store.now c.mend_row.new.store
    c.args.marks.now c.mend_row.new.marks c.requires.ready
    (row_left [] c.requires.row (rw c.deref-2.ensures.value at c.in_ok-mended.ensures.mends)).0
    c.in_ok-mended.ensures.loans c.in_ok-mended.ensures.serves c.mend_row.auto.marks

pub returns-in_err-mended-clause-ready : goal.returns-in_err-mended-clause-ready
returns-in_err-mended-clause-ready g c =
    can_mend_then false (g.R.Rack.seen c.args.rack.now) (g.R.Rack.seen c.mend_row.new.rack) c.args.store.now c.mend_row.new.store
    c.args.marks.now c.mend_row.new.marks c.requires.ready
    (row_left [] c.requires.row (rw c.deref-2.ensures.value at c.in_err-mended.ensures.mends)).0
    c.in_err-mended.ensures.loans c.in_err-mended.ensures.serves c.mend_row.auto.marks

pub returns-clause-reads : goal.returns-clause-reads
returns-clause-reads g c = (row_left [] c.requires.row (rw c.deref-2.ensures.value at c.in_ok-mended.ensures.mends)).1 refl

pub returns-in_err-mended-clause-reads : goal.returns-in_err-mended-clause-reads
returns-in_err-mended-clause-reads g c = (row_left [] c.requires.row (rw c.deref-2.ensures.value at c.in_err-mended.ensures.mends)).1 refl

pub returns-clause-account : goal.returns-clause-account
returns-clause-account g c = (rw c.deref-2.ensures.value at c.in_ok-mended.ensures.account) refl c.requires.row.row c.requires.row.is

pub returns-in_err-mended-clause-account : goal.returns-in_err-mended-clause-account
returns-in_err-mended-clause-account g c =
    let r = c.requires.row in
    let p = err_from_is_err_and c.from_residual.result c.from_residual.ensures.1 in
    rw (p.1, p.2) (row_account MendedRow (Option ℕ) c.args.store.now.layout c.args.at.chunk c.args.at.number c.args.room.now.wants.items r.row
    (g.R.Rack.seen c.args.rack.now) (g.R.Rack.seen c.mend_row.new.rack) c.in_err-mended.field-0.0 c.requires.ready.table r.is
    ((rw c.deref-2.ensures.value at c.in_err-mended.ensures.account) refl r.row r.is))
