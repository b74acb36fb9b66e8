use Rattle.std.proofs.Common.{refl, ◌∙◌, arith}
use Rattle.btr_scrub_row.proofs.Common.{IsOfRow, does_nothing, does_passed, mending_writes, take_all}
use Rattle.btr_scrub_row.proofs.Judges.{in_row, same_count, want_at}
use Rattle.btr_scrub_row.proofs.Wrote.{can_still, flat_cut, flat_next, flat_told-none, tells_still}
use Rattle.btr_scrub_row.proofs.blocks.write_blocks.Goals as goal

pub loop-want-init : goal.loop-want-init
loop-want-init g c = record {
  slots = refl;
  done = λ told row of tells.
      let Lies = IsOfRow c.args.view.now.store.now.layout row in
      rw (flat_told-none (λ images. mending_writes images row.failing) told) (does_nothing Lies _ _);
}

pub write_block-requires-clause-can : goal.write_block-requires-clause-can
write_block-requires-clause-can g c = can_still c.loop-want.invariant.slots c.loop-want.auto.marks c.requires.can

pub write_block-requires-clause-within : goal.write_block-requires-clause-within
write_block-requires-clause-within g c =
    let w = c.requires.view.wanted in
    in_row c.args.view.now.store.now.layout c.args.view.now.wanted.stripe c.args.view.now.wanted.wants.now w.stripe.row c.loop-want.want-index _ w.stripe.of
    w.is c.loop-want-test.true

pub loop-want-preserved : goal.loop-want-preserved
loop-want-preserved g c = record {
  slots = c.write_block.ensures.slots ∙ c.loop-want.invariant.slots;
  done = λ told row of tells.
      let i = c.loop-want.want-index in
      let w = want_at c.args.view.now.store.now.layout c.args.view.now.wanted.wants.now row.blocks i _ of.is.blocks c.loop-want-test.true in
      let h = c.loop-want.invariant.done told row of tells in
      flat_next (λ images. mending_writes images row.failing) told row.blocks i w.target w.below (w.at w.target) h
      (c.in_ok-write_block.ensures.writes told row w.target of.of of.knows (tells_still h tells) w.is_sought);
}

pub returns-in_err-write_block-clause-writes : goal.returns-in_err-write_block-clause-writes
returns-in_err-write_block-clause-writes g c told row of tells =
    let i = c.loop-want.want-index in
    let w = want_at c.args.view.now.store.now.layout c.args.view.now.wanted.wants.now row.blocks i _ of.is.blocks c.loop-want-test.true in
    let h = c.loop-want.invariant.done told row of tells in
    does_passed c.from_residual.ensures.1 (flat_cut (λ images. mending_writes images row.failing) told row.blocks i w.target w.below (w.at w.target) h
    (c.in_err-write_block.ensures.writes told row w.target of.of of.knows (tells_still h tells) w.is_sought))

pub returns-clause-writes : goal.returns-clause-writes
returns-clause-writes g c told row of tells =
    let long = same_count c.args.view.now.store.now.layout c.args.view.now.wanted.wants.now row.blocks of.is.blocks in
    rw (take_all c.loop-want.want-index row.blocks (omega (arith, long, c.loop-want-test.false))) at (c.loop-want.invariant.done told row of tells)
