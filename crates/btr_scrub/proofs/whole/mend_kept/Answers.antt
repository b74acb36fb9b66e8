use Rattle.std.proofs.Common.{Bool, length, Ok, Err, refl, sym, ap, ◌∙◌, subst}
use Rattle.std.specs.declared.vec.Vec.{Vec}
use Rattle.btr_scrub.proofs.Common.{Global, begun, kept_wants, listed_count_for, listed_writes_for, same_held, serving}
use Rattle.btr_scrub_copies.specs.Writes.{AreWritable}
use Rattle.btr_read.proofs.ReadsOn.{same_slots}
use Rattle.btr_read.proofs.Serving.{serves_as}
use Rattle.btr_scrub.proofs.Sufficing.{works_beside, works_missed}
use Rattle.btr_scrub.proofs.whole.mend_kept.Goals as goal

pub failing_images-requires-clause-open : goal.failing_images-requires-clause-open
failing_images-requires-clause-open g c = (serving (g.R.Rack.seen c.args.rack.now) c.args.vol.now.store c.requires.ready.serves).are_open

pub returns-in-Err-clause-serves : goal.returns-in-Err-clause-serves
returns-in-Err-clause-serves g c =
    let store = c.args.vol.now.store in
    let reads = c.in-Err.ensures.reads in
    serves_as (g.R.Rack.seen c.args.rack.now) (g.R.Rack.seen c.failing_images.new.rack) store store (same_slots reads)
    (same_held reads) refl refl c.requires.ready.serves

pub returns-in-Err-clause-works : goal.returns-in-Err-clause-works
returns-in-Err-clause-works g c =
    let layout = c.args.vol.now.store.layout in
    let wants = kept_wants c.args.sieve.sifted.kept in
    let start = begun c.args.sieve.sifted.sound c.args.sieve.unchecked in
    record {
      tally = start;
      ended = Err c.in-Err.fault;
      works = works_missed layout c.args.write (listed_writes_for layout wants) (listed_count_for layout c.args.write wants)
          (g.R.Rack.seen c.args.rack.now) (g.R.Rack.seen c.failing_images.new.rack) c.in-Err.ensures.reads
          (Vec Bool Global) start c.in-Err.fault c.in-Err.ensures.account;
      says = c.stop_of.ensures start;
    }

pub mend_all-requires-clause-ready : goal.mend_all-requires-clause-ready
mend_all-requires-clause-ready g c =
    let store = c.args.vol.now.store in
    let reads = c.in-Ok.ensures.reads in
    record {
      serves = serves_as (g.R.Rack.seen c.args.rack.now) (g.R.Rack.seen c.failing_images.new.rack) store store (same_slots reads)
          (same_held reads) refl refl c.requires.ready.serves;
      room = c.requires.ready.room;
      writable = λ w. subst AreWritable (sym (same_slots reads)) (c.requires.ready.writable w);
      slots = c.requires.ready.slots ∙ sym (ap length (same_slots reads));
      table = c.requires.ready.table;
      given = c.requires.ready.given;
    }

pub returns-in-Ok-mend_all-clause-works : goal.returns-in-Ok-mend_all-clause-works
returns-in-Ok-mend_all-clause-works g c =
    let a = g.R.Rack.seen c.args.rack.now in
    record {
      tally = c.mend_all.new.progress.tally;
      ended = Ok tt;
      works = works_beside c.args.vol.now.store.layout c.args.write (kept_wants c.args.sieve.sifted.kept) c.in-Ok.failing.items a
          (g.R.Rack.seen c.failing_images.new.rack) (g.R.Rack.seen c.mend_all.new.rack) (begun c.args.sieve.sifted.sound c.args.sieve.unchecked)
          c.mend_all.new.progress.tally (Ok tt) c.requires.ready.table (serving a c.args.vol.now.store c.requires.ready.serves).own_slots
          c.requires.ready.given c.in-Ok.ensures.reads c.in-Ok.ensures.account c.in-Ok.ensures.flags
          (rw (c.deref.ensures.value, c.read_all-blocks.ensures, c.begun.ensures) at c.in-Ok-mend_all.ensures.works);
      says = refl;
    }

pub returns-clause-works : goal.returns-clause-works
returns-clause-works g c =
    let a = g.R.Rack.seen c.args.rack.now in
    let fault = c.in-Err-mend_all.fault in
    record {
      tally = c.mend_all.new.progress.tally;
      ended = Err fault;
      works = works_beside c.args.vol.now.store.layout c.args.write (kept_wants c.args.sieve.sifted.kept) c.in-Ok.failing.items a
          (g.R.Rack.seen c.failing_images.new.rack) (g.R.Rack.seen c.mend_all.new.rack) (begun c.args.sieve.sifted.sound c.args.sieve.unchecked)
          c.mend_all.new.progress.tally (Err fault) c.requires.ready.table (serving a c.args.vol.now.store c.requires.ready.serves).own_slots
          c.requires.ready.given c.in-Ok.ensures.reads c.in-Ok.ensures.account c.in-Ok.ensures.flags
          (rw (c.deref.ensures.value, c.read_all-blocks.ensures, c.begun.ensures) at c.in-Err-mend_all.ensures.works);
      says = c.stop_of-in-Err-mend_all.ensures c.mend_all.new.progress.tally;
    }
