use Rattle.std.proofs.Common.{◌≡◌, false, Err, sym, ap, ◌∙◌, refl}
use Rattle.btr_scrub.proofs.Common.{Mended, err_from_is_err_and, is_copy_needed, is_plain, mended_of, sought, sought_of}
use Rattle.btr_scrub_copies.proofs.Doing.{only_slots}
use Rattle.btr_scrub.proofs.Doubting.{the_sought}
use Rattle.btr_scrub.proofs.Scrubbing.{can_mend_then, tell, told}
use Rattle.btr_scrub.proofs.Sieving.{copies_in_stripe, needed_block, sought_copied}
use Rattle.btr_scrub.proofs.sieve.is_needed.Goals as goal

pub mend_copies-requires-clause-copied : goal.mend_copies-requires-clause-copied
mend_copies-requires-clause-copied g c =
    let layout = c.args.store.now.layout in
    let t = the_sought (sought layout c.args.want.now) c.requires.sought in
    sought_copied layout c.args.want.now t.0 c.requires.ready.table c.requires.ready.given t.1 (c.requires.copies t.0 t.1)

pub returns : goal.returns
returns g c =
    let layout = c.args.store.now.layout in
    let t = the_sought (sought layout c.args.want.now) c.requires.sought in
    let mended = c.in_ok-mended.mended in
    let m = c.in_ok-mended.ensures.mends t.0 t.1 in
    record {
      ready = can_mend_then false (g.R.Rack.seen c.args.rack.now) (g.R.Rack.seen c.mend_copies.new.rack) c.args.store.now c.mend_copies.new.store
          c.args.marks.now c.mend_copies.new.marks c.requires.ready (only_slots m.does.ranges m.does.only) c.in_ok-mended.ensures.loans
          c.in_ok-mended.ensures.serves c.mend_copies.auto.marks;
      loans = c.in_ok-mended.ensures.loans;
      reads = m.unwritten refl;
      needed = λ t e. tell (g.R.Rack.seen c.args.rack.now).held (λ images. c.is_unsound.result ≡ is_copy_needed images layout t)
          (λ images here. c.is_unsound.ensures ∙ sym (needed_block images layout t
          (ap is_plain (sought_of layout c.args.want.now t e).want_is ∙ sym c.is_plain.ensures ∙ c.if-is_plain.false) mended
          (told (g.R.Rack.seen c.args.rack.now).held (λ images. mended ≡ mended_of images t false) images here (c.in_ok-mended.ensures.mends t e).counts)));
      account = m.does.account;
    }

pub returns-in_err-mended : goal.returns-in_err-mended
returns-in_err-mended g c =
    let layout = c.args.store.now.layout in
    let t = the_sought (sought layout c.args.want.now) c.requires.sought in
    let m = c.in_err-mended.ensures.mends t.0 t.1 in
    let p = err_from_is_err_and c.from_residual.result c.from_residual.ensures.1 in
    record {
      ready = can_mend_then false (g.R.Rack.seen c.args.rack.now) (g.R.Rack.seen c.mend_copies.new.rack) c.args.store.now c.mend_copies.new.store
          c.args.marks.now c.mend_copies.new.marks c.requires.ready (only_slots m.does.ranges m.does.only) c.in_err-mended.ensures.loans
          c.in_err-mended.ensures.serves c.mend_copies.auto.marks;
      loans = c.in_err-mended.ensures.loans;
      reads = m.unwritten refl;
      needed = λ t e. rw p.1 tt;
      account = rw (p.1, p.2) (copies_in_stripe {A = Mended} layout c.args.want.now t.0 (g.R.Rack.seen c.args.rack.now)
          (g.R.Rack.seen c.mend_copies.new.rack) (Err c.in_err-mended.field-0.0) c.requires.ready.table t.1 m.does.account);
    }
