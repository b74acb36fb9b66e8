use Rattle.std.proofs.Common.{◌-◌, ◌^◌, IfSome, Err, refl, subst, arith}
use Rattle.btr_scrub.proofs.Common.{Flags, LiesInStripe, err_from_is_err_and, fails_on, reads_more, same_held, sought}
use Rattle.btr_read.proofs.Keeping.{none_more}
use Rattle.btr_read.proofs.ReadsOn.{open_still, same_sure}
use Rattle.btr_scrub_copies.proofs.Doing.{account_then}
use Rattle.btr_scrub.proofs.Doubting.{looked_done, looked_first, looked_more, looked_passed, looks_next, parts_in_stripe, the_sought}
use Rattle.btr_scrub.proofs.Positions.{is_sought}
use Rattle.btr_scrub.proofs.doubts.flag_blocks.Goals as goal

pub loop-want-init : goal.loop-want-init
loop-want-init g c = record {
  ready = c.requires.ready;
  reads = record { same = refl; later = omega arith; same_shut = refl };
  account = record { faults = refl; fresh = refl; missed = refl; last = refl; opening = refl; shut = refl };
  looked = looked_first c.args.store.now.layout (g.R.Rack.seen c.args.rack.now).held c.args.blocks.now c.args.probe.now.failing.items c.requires.apart;
}

pub flag_block-requires-clause-open : goal.flag_block-requires-clause-open
flag_block-requires-clause-open g c = open_still c.args.store.now.layout.devices c.loop-want.invariant.reads c.requires.open

pub flag_block-requires-clause-sought : goal.flag_block-requires-clause-sought
flag_block-requires-clause-sought g c = looks_next c.loop-want.invariant.looked c.in-Some.ensures

pub loop-want-preserved : goal.loop-want-preserved
loop-want-preserved g c =
    let a = g.R.Rack.seen c.args.rack.now in
    let b = g.R.Rack.seen c.loop-want.rack in
    let d = g.R.Rack.seen c.flag_block.new.rack in
    let layout = c.args.store.now.layout in
    let want = c.in-Some.want in
    let mid = c.loop-want.probe.failing.items in
    let new = c.flag_block.new.probe.failing.items in
    let t = the_sought (sought layout want) (looks_next c.loop-want.invariant.looked c.in-Some.ensures) in
    record {
      ready = c.in_ok-flag_block.ensures.ready;
      reads = reads_more c.loop-want.invariant.reads c.in_ok-flag_block.ensures.reads;
      account = none_more a.account b.account d.account c.loop-want.invariant.account (c.in_ok-flag_block.ensures.account t.0 t.1);
      looked = looked_passed layout a.held c.args.blocks.now c.args.probe.now.failing.items new c.is_plain.result c.next.new.self (2 ^ 64 - 1)
          c.pass_if.new.blocks c.pass_if.ensures
          (looked_more c.loop-want.invariant.looked want c.next.new.self t.0 new c.in-Some.ensures t.1
          (subst (λ held. IfSome held (λ images. Flags mid (λ slot. fails_on images slot t.0) new)) (same_held c.loop-want.invariant.reads)
          (c.in_ok-flag_block.ensures.flags t.0 t.1)));
    }

pub returns-in_err-flag_block-clause-reads : goal.returns-in_err-flag_block-clause-reads
returns-in_err-flag_block-clause-reads g c = reads_more c.loop-want.invariant.reads c.in_err-flag_block.ensures.reads

pub returns-in_err-flag_block-clause-account : goal.returns-in_err-flag_block-clause-account
returns-in_err-flag_block-clause-account g c =
    let a = g.R.Rack.seen c.args.rack.now in
    let b = g.R.Rack.seen c.loop-want.rack in
    let d = g.R.Rack.seen c.flag_block.new.rack in
    let layout = c.args.store.now.layout in
    let want = c.in-Some.want in
    let t = the_sought (sought layout want) (looks_next c.loop-want.invariant.looked c.in-Some.ensures) in
    let p = err_from_is_err_and c.from_residual.result c.from_residual.ensures.1 in
    rw (p.1, p.2) (account_then {A = Unit {0}} (LiesInStripe layout) a b d (Err c.in_err-flag_block.field-0.0)
    (same_sure c.loop-want.invariant.reads) c.loop-want.invariant.account
    (parts_in_stripe {A = Unit {0}} layout t.0 b d (Err c.in_err-flag_block.field-0.0) c.requires.table (is_sought layout want t.0 t.1)
    (c.in_err-flag_block.ensures.account t.0 t.1)))

pub returns-clause-flags : goal.returns-clause-flags
returns-clause-flags g c = looked_done c.loop-want.invariant.looked c.in_default.ensures.0
