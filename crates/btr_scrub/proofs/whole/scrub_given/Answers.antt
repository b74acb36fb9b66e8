use Rattle.std.proofs.Common.{◌+◌, [], Ok, length, drop, refl, sym, ap, ◌∙◌, subst, arith}
use Rattle.btr_scrub.proofs.Common.{AreApart, Follows, drawn, err_from_is_err_and, exec, first_tally, kept_wants, no_part, take_at, units_in, unread_by}
use Rattle.btr_scrub.proofs.Common.{wants_among}
use Rattle.btr_scrub_copies.specs.Writes.{AreWritable}
use Rattle.btr_read.proofs.ReadsOn.{same_slots}
use Rattle.std.specs.Prelude.{count_by}
use Rattle.btr_scrub.specs.Repair.{is_unchecked}
use Rattle.btr_scrub.specs.Whole.{Listed, Refused, WorksFrom}
use Rattle.btr_scrub.proofs.Refusing.{not_apart}
use Rattle.btr_scrub.proofs.Unitwise.{between_apart, units_apart}
use Rattle.btr_scrub.proofs.KeptWorks.{counts_stand, scrubs_memory, scrubs_stopped, works_kept}
use Rattle.btr_scrub.proofs.whole.scrub_given.Goals as goal

pub returns-in_default-clause-scrubs : goal.returns-in_default-clause-scrubs
returns-in_default-clause-scrubs g c = scrubs_memory c.args.vol.now.sup c.args.vol.now.store.layout c.args.write (g.R.Rack.seen c.args.rack.now)

pub returns-in_default-vec-clause-scrubs : goal.returns-in_default-vec-clause-scrubs
returns-in_default-vec-clause-scrubs g c = scrubs_memory c.args.vol.now.sup c.args.vol.now.store.layout c.args.write (g.R.Rack.seen c.args.rack.now)

pub returns-in_err-sieve-clause-scrubs : goal.returns-in_err-sieve-clause-scrubs
returns-in_err-sieve-clause-scrubs g c =
    let p = err_from_is_err_and c.from_residual.result c.from_residual.ensures.1 in
    rw (p.1, p.2) (scrubs_stopped c.args.vol.now.sup c.args.vol.now.store.layout c.args.write (g.R.Rack.seen c.args.rack.now)
    (g.R.Rack.seen c.sift_blocks.new.rack) c.in_err-sieve.field-0.0 c.in_err-sieve.ensures.reads c.in_err-sieve.ensures.sifts)

pub mend_kept-requires-clause-apart : goal.mend_kept-requires-clause-apart
mend_kept-requires-clause-apart g c =
    let sieve = c.in_ok-sieve.sieve in
    rw c.in_ok-sieve.ensures.volume.store.layout (between_apart c.args.vol.now.store.layout 0 sieve.end (kept_wants sieve.sifted.kept)
    (rw c.in-None.is at c.in_ok-sieve.ensures.sifts.1.judged).kept_apart)

pub returns-in-Some-clause-scrubs : goal.returns-in-Some-clause-scrubs
returns-in-Some-clause-scrubs g c =
    let s = c.args.vol.now.sup in
    let layout = c.args.vol.now.store.layout in
    let old = g.R.Rack.seen c.args.rack.now in
    let mid = g.R.Rack.seen c.sift_blocks.new.rack in
    let is = c.in_ok-sieve.ensures.sifts in
    let fault = c.in-Some.fault in
    let refused = rw c.in-Some.is at is.1.judged in
    record {
      mid = mid;
      reads = c.in_ok-sieve.ensures.reads;
      done = is.0;
      listing = Refused fault;
      goes = (
        refl,
        refl,
        refused,
        drawn layout (λ B. Follows (unread_by layout old mid) no_part [] (exec B (units_in s layout.chunks)) is.0 (Ok tt)) (λ B. ⊥)
            (λ B f. not_apart layout 0 (wants_among is.0) fault refused (subst (AreApart layout 0) (ap wants_among (sym f.0))
            (units_apart s layout c.requires.table c.requires.nodesize (omega (arith, c.requires.large)) B))) is.2,
      );
    }

pub returns-in-None-clause-scrubs : goal.returns-in-None-clause-scrubs
returns-in-None-clause-scrubs g c =
    let layout = c.args.vol.now.store.layout in
    let mid = g.R.Rack.seen c.sift_blocks.new.rack in
    let new = g.R.Rack.seen c.mend_kept.new.rack in
    let sieve = c.in_ok-sieve.sieve in
    let kept = kept_wants sieve.sifted.kept in
    let is = c.in_ok-sieve.ensures.sifts in
    let judged = rw c.in-None.is at is.1.judged in
    record {
      mid = mid;
      reads = c.in_ok-sieve.ensures.reads;
      done = is.0;
      listing = Listed;
      goes = (
        is.2,
        subst (λ n. WorksFrom layout c.args.write (wants_among is.0) (first_tally n) mid new c.mend_kept.result) is.1.unchecked
            (works_kept layout c.args.write kept (wants_among is.0) sieve.sifted.sound sieve.unchecked mid new c.requires.table judged.needed judged.sound
            (0 + count_by is_unchecked is.0) (is.1.unchecked ∙ counts_stand is.0) c.mend_kept.result
            (rw c.in_ok-sieve.ensures.volume.store.layout at c.mend_kept.ensures.works)),
      );
    }

pub mend_kept-requires-clause-ready : goal.mend_kept-requires-clause-ready
mend_kept-requires-clause-ready g c =
    let can = c.in_ok-sieve.ensures.ready in
    let marks = c.sift_blocks.new.marks in
    let old = c.in-Ok-vec.marks in
    record {
      serves = can.serves;
      room = can.room;
      writable = λ w. subst AreWritable (sym (same_slots c.in_ok-sieve.ensures.reads)) (c.requires.writable w);
      slots = ap length (take_at marks (drop (length marks) old.items) old.len (c.sift_blocks.auto.marks ∙ c.deref_mut.ensures.len)) ∙ can.slots;
      table = can.table;
      given = can.given;
    }
