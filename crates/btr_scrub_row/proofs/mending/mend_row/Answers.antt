use Rattle.std.proofs.Common.{length, refl, sym, ◌∙◌, arith, ◌≡◌, subst}
use Rattle.btr_scrub_row.proofs.Common.{IsOfRow, Judged, false≢true, parity_count}
use Rattle.btr_read.proofs.ReadsOn.{same_held, same_slots}
use Rattle.btr_read.proofs.Serving.{serves_as, serving}
use Rattle.btr_scrub_copies.specs.Writes.{AccountsMend}
use Rattle.btr_scrub_copies.proofs.Doing.{account_halt, passed}
use Rattle.btr_scrub_copies.proofs.Outcomes.{serves_forgot}
use Rattle.btr_scrub_row.specs.declared.mended.MendedRow.{MendedRow}
use Rattle.btr_scrub_row.proofs.Outcomes.{is_read, mends_cut, mends_failed, mends_read, mends_wrote, room_all, tells_prepared}
use Rattle.btr_scrub_row.proofs.Wrote.{can_still}
use Rattle.btr_read.specs.Store.{Blocks}
use Rattle.btr_scrub_row.specs.Preparing.{WherePrepared}
use Rattle.btr_scrub_row.proofs.mending.mend_row.Goals as goal

pub prepare-requires-clause-open : goal.prepare-requires-clause-open
prepare-requires-clause-open g c = let was = serving _ _ c.requires.serves in was.are_open

pub returns-in_err-judged-clause-serves : goal.returns-in_err-judged-clause-serves
returns-in_err-judged-clause-serves g c = serves_as (g.R.Rack.seen c.args.rack.now) (g.R.Rack.seen c.prepare.new.rack) c.args.store.now c.args.store.now
    (same_slots c.prepare.ensures.reads) (same_held c.prepare.ensures.reads) refl refl c.requires.serves

pub returns-then-not-work-clause-serves : goal.returns-then-not-work-clause-serves
returns-then-not-work-clause-serves g c = serves_as (g.R.Rack.seen c.args.rack.now) (g.R.Rack.seen c.prepare.new.rack) c.args.store.now
    c.args.store.now (same_slots c.prepare.ensures.reads) (same_held c.prepare.ensures.reads) refl refl c.requires.serves

pub returns-in_err-judged-clause-mends : goal.returns-in_err-judged-clause-mends
returns-in_err-judged-clause-mends g c row is fails =
    mends_failed c.in_err-judged.field-0.0 c.from_residual.ensures.1 c.prepare.ensures.reads
    (c.in_err-judged.ensures.account row (c.wanted_row-wanted.ensures.stripe row is))

pub count_parities-requires-clause-room : goal.count_parities-requires-clause-room
count_parities-requires-clause-room g c row of =
    let r = c.requires.row in
    c.prepare.ensures.room (length row.chunk.stripes) (room_all (c.wanted_row-wanted.ensures.stripe r.row r.is) of (c.requires.room r.row r.is))

pub returns-then-not-work-clause-mends : goal.returns-then-not-work-clause-mends
returns-then-not-work-clause-mends g c row is fails =
    let of = c.wanted_row-wanted.ensures.stripe row is in
    let read = is_read c.prepare.ensures.reads (c.in_ok-judged.ensures.account row of)
    (λ images e. c.in_ok-judged.ensures.prepared images row e (c.wanted_row-wanted.ensures.is row is fails)) in
    mends_read read c.if-not-work.true c.count_parities.result (λ images e. c.count_parities.ensures images row of (read.prepared images e))

pub write_row-requires-clause-can : goal.write_row-requires-clause-can
write_row-requires-clause-can g c =
    let was = serving _ _ c.requires.serves in
    rw c.forget_kept.ensures (can_still {a = g.R.Rack.seen c.args.rack.now} (same_slots c.prepare.ensures.reads) refl
    (record { are_open = was.are_open; writable = c.requires.writable c.if-not-work.false; slots = omega (arith, c.requires.slots) }))

pub write_row-requires-clause-wanted : goal.write_row-requires-clause-wanted
write_row-requires-clause-wanted g c = rw c.forget_kept.ensures c.wanted_row-wanted.ensures.there

pub write_row-requires-clause-room : goal.write_row-requires-clause-room
write_row-requires-clause-room g c row of =
    let r = c.requires.row in
    c.prepare.ensures.room (length row.chunk.stripes)
    (room_all (c.wanted_row-wanted.ensures.stripe r.row r.is) (rw c.forget_kept.ensures at of) (c.requires.room r.row r.is))

pub count_parities-requires-2-clause-room : goal.count_parities-requires-2-clause-room
count_parities-requires-2-clause-room g c row of =
    let r = c.requires.row in
    c.write_row.ensures.room (length row.chunk.stripes) (c.prepare.ensures.room (length row.chunk.stripes)
    (room_all (c.wanted_row-wanted.ensures.stripe r.row r.is) (rw c.forget_kept.ensures at of) (c.requires.room r.row r.is)))

pub returns-clause-serves : goal.returns-clause-serves
returns-clause-serves g c =
    serves_forgot (g.R.Rack.seen c.args.rack.now) (g.R.Rack.seen c.write_row.new.rack) c.args.store.now c.forget_kept.new.self c.requires.serves
    c.forget_kept.ensures (c.write_row.ensures.slots ∙ same_slots c.prepare.ensures.reads)

pub returns-in_err-write_row-clause-serves : goal.returns-in_err-write_row-clause-serves
returns-in_err-write_row-clause-serves g c =
    serves_forgot (g.R.Rack.seen c.args.rack.now) (g.R.Rack.seen c.write_row.new.rack) c.args.store.now c.forget_kept.new.self c.requires.serves
    c.forget_kept.ensures (c.write_row.ensures.slots ∙ same_slots c.prepare.ensures.reads)

pub returns-clause-room : goal.returns-clause-room
returns-clause-room g c = λ n room. c.write_row.ensures.room n (c.prepare.ensures.room n room)

pub returns-in_err-write_row-clause-room : goal.returns-in_err-write_row-clause-room
returns-in_err-write_row-clause-room g c = λ n room. c.write_row.ensures.room n (c.prepare.ensures.room n room)

pub returns-clause-mends : goal.returns-clause-mends
returns-clause-mends g c row is fails =
    let wanted = c.wanted_row-wanted.ensures.is row is fails in
    let of = c.wanted_row-wanted.ensures.stripe row is in
    let read = is_read c.prepare.ensures.reads (c.in_ok-judged.ensures.account row of) (λ images e. c.in_ok-judged.ensures.prepared images row e wanted) in
    let stays = rw c.forget_kept.ensures at c.in_ok-write_row.ensures.prepared in
    let count = subst (λ (s : Blocks). WherePrepared s.layout c.wanted_row-wanted.result.stripe c.in_ok-judged.judged c.write_row.new.buffer
    (λ images row. c.count_parities-2.result ≡ parity_count images s.layout row)) c.forget_kept.ensures c.count_parities-2.ensures in
    let writes = rw c.forget_kept.ensures at c.in_ok-write_row.ensures.writes in
    mends_wrote read c.if-not-work.false c.count_parities-2.result
    (λ images e. count images row of (stays images row (read.prepared images e))) (writes _ row wanted (tells_prepared read))

pub returns-in_err-write_row-clause-mends : goal.returns-in_err-write_row-clause-mends
returns-in_err-write_row-clause-mends g c row is fails =
    let wanted = c.wanted_row-wanted.ensures.is row is fails in
    let read = is_read c.prepare.ensures.reads (c.in_ok-judged.ensures.account row (c.wanted_row-wanted.ensures.stripe row is))
    (λ images e. c.in_ok-judged.ensures.prepared images row e wanted) in
    let writes = rw c.forget_kept.ensures at c.in_err-write_row.ensures.writes in
    mends_cut read c.if-not-work.false c.in_err-write_row.field-0.0 c.from_residual-in_err-write_row.ensures.1
    (writes _ row wanted (tells_prepared read))

pub returns-in_err-judged-clause-account : goal.returns-in_err-judged-clause-account
returns-in_err-judged-clause-account g c unwritten row is =
    let P = IsOfRow c.args.store.now.layout row in
    passed (λ r. AccountsMend P (g.R.Rack.seen c.args.rack.now) (g.R.Rack.seen c.prepare.new.rack) r) _ _ c.from_residual.ensures.1
    (account_halt Judged MendedRow P _ _ c.in_err-judged.field-0.0 (c.in_err-judged.ensures.account row (c.wanted_row-wanted.ensures.stripe row is)))

pub returns-then-not-work-clause-account : goal.returns-then-not-work-clause-account
returns-then-not-work-clause-account g c unwritten row is = c.in_ok-judged.ensures.account row (c.wanted_row-wanted.ensures.stripe row is)

pub returns-clause-account : goal.returns-clause-account
returns-clause-account g c unwritten = absurd (false≢true (sym unwritten ∙ c.if-not-work.false))

pub returns-in_err-write_row-clause-account : goal.returns-in_err-write_row-clause-account
returns-in_err-write_row-clause-account g c unwritten = absurd (false≢true (sym unwritten ∙ c.if-not-work.false))
