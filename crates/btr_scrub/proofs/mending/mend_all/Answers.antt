use Rattle.std.proofs.lemmas.List.{take_all}
use Rattle.std.proofs.Common.{length, refl, ap, arith}
use Rattle.btr_chunk.proofs.Bytes.{at-below}
use Rattle.btr_scrub.proofs.Common.{flagged, same_loans_then}
use Rattle.btr_scrub.proofs.Working.{begins_there, chunks_cut, chunks_more, chunks_none, works_alone, works_passed}
use Rattle.btr_scrub.proofs.mending.mend_all.Goals as goal

pub loop-number-init : goal.loop-number-init
loop-number-init g c = record {
  ready = c.requires.ready;
  loans = record { layout = refl; loans = refl };
  rooms = c.requires.rooms;
  past = chunks_none (flagged c.args.task.failing.now) c.args.store.now.layout c.requires.ready.table c.args.blocks.now
      c.args.task.write (g.R.Rack.seen c.args.rack.now) c.args.progress.now.tally c.requires.apart;
}

pub mend_and_sync-requires-clause-chunk : goal.mend_and_sync-requires-clause-chunk
mend_and_sync-requires-clause-chunk g c =
    let inv = c.loop-number.invariant in
    let at = at-below c.args.store.now.layout.chunks c.loop-number.number
    (omega (arith, c.loop-number-test.true, c.count-number-end.ensures.count, ap length c.chunks.ensures)) in
    rw inv.loans.layout (rw at.1 (begins_there c.requires.ready (g.met.R.Rack.sound c.args.rack.now) inv.past at.1))

pub returns-in_err-mend_and_sync-clause-loans : goal.returns-in_err-mend_and_sync-clause-loans
returns-in_err-mend_and_sync-clause-loans g c = same_loans_then c.args.store.now c.loop-number.store c.mend_and_sync.new.store c.loop-number.invariant.loans
    c.in_err-mend_and_sync.ensures.loans

pub returns-in_err-mend_and_sync-clause-works : goal.returns-in_err-mend_and_sync-clause-works
returns-in_err-mend_and_sync-clause-works g c =
    let inv = c.loop-number.invariant in
    let at = at-below c.args.store.now.layout.chunks c.loop-number.number
    (omega (arith, c.loop-number-test.true, c.count-number-end.ensures.count, ap length c.chunks.ensures)) in
    works_passed c.from_residual.ensures.1 (chunks_cut c.requires.ready (g.met.R.Rack.sound c.args.rack.now) inv.past at.1
    (works_alone c.args.store.now.layout c.args.task.write c.loop-number.number at.1 ((rw inv.loans.layout at c.in_err-mend_and_sync.ensures.works) at.0 at.1)))

pub loop-number-preserved : goal.loop-number-preserved
loop-number-preserved g c =
    let inv = c.loop-number.invariant in
    let at = at-below c.args.store.now.layout.chunks c.loop-number.number
    (omega (arith, c.loop-number-test.true, c.count-number-end.ensures.count, ap length c.chunks.ensures)) in
    record {
      ready = c.in_ok-mend_and_sync.ensures.ready;
      loans = same_loans_then c.args.store.now c.loop-number.store c.mend_and_sync.new.store inv.loans c.in_ok-mend_and_sync.ensures.loans;
      rooms = rw inv.loans.layout at c.in_ok-mend_and_sync.ensures.rooms;
      past = chunks_more c.requires.ready (g.met.R.Rack.sound c.args.rack.now) inv.past at.1
          ((rw inv.loans.layout at c.in_ok-mend_and_sync.ensures.past) at.0 at.1)
          (works_alone c.args.store.now.layout c.args.task.write c.loop-number.number at.1
          ((rw inv.loans.layout at c.in_ok-mend_and_sync.ensures.works) at.0 at.1));
    }

pub returns-clause-works : goal.returns-clause-works
returns-clause-works g c =
    rw (take_all c.loop-number.number c.args.store.now.layout.chunks
    (omega (arith, c.loop-number-test.false, c.count-number-end.ensures.count, ap length c.chunks.ensures))) at c.loop-number.invariant.past.done
