use Rattle.std.proofs.Common.{◌*◌, ◌<◌, ◌≤◌, ◌&&◌, not, length, take, replicate, false, refl, ap, subst, arith}
use Rattle.btr_scrub_row.proofs.Common.{IsOn, data_count, slice_count, take_all, take_more}
use Rattle.btr_scrub_copies.proofs.Flags.{cond_few}
use Rattle.btr_scrub_row.proofs.Judges.{in_row, judged_more, judged_none, none_of_sixteen, same_count, want_at}
use Rattle.btr_scrub_row.proofs.Shapes.{row_counted}
use Rattle.btr_scrub_row.proofs.judged.judge.Goals as goal

pub loop-want-init : goal.loop-want-init
loop-want-init c = record {
  blocks = omega arith;
  bad = omega arith;
  rebuilt = omega arith;
  lost = omega arith;
  judged = λ images row wanted holds.
      judged_none images c.args.view.now.store.now.layout row c.args.view.now.old.now c.copy_front.new.front holds (omega arith)
      (c.args.view.now.wanted.stripe.shape.slices * 65536) (omega (arith, wanted.of.shape.slices)) c.copy_front.ensures
      (record { blocks = 0; bad = 0; rebuilt = 0; lost = 0; met = replicate 16 false; broken = replicate 16 false }) refl refl refl refl none_of_sixteen
      none_of_sixteen;
}

pub judge_block-verdict-requires-clause-within : goal.judge_block-verdict-requires-clause-within
judge_block-verdict-requires-clause-within c =
    let w = c.requires.view.wanted in
    in_row c.args.view.now.store.now.layout c.args.view.now.wanted.stripe c.args.view.now.wanted.wants.now w.stripe.row c.loop-want.want-index _ w.stripe.of
    w.is c.loop-want-test.true

pub counted-judged-requires-clause-inside : goal.counted-judged-requires-clause-inside
counted-judged-requires-clause-inside c = c.judge_block-verdict.ensures.inside

pub loop-want-preserved : goal.loop-want-preserved
loop-want-preserved c =
    let verdict = c.judge_block-verdict.result in
    let e = c.counted-judged.ensures in
    record {
      blocks = omega (arith, e.blocks, c.loop-want.invariant.blocks, cond_few verdict.checked);
      bad = omega (arith, e.bad, c.loop-want.invariant.bad, cond_few (not verdict.good));
      rebuilt = omega (arith, e.rebuilt, c.loop-want.invariant.rebuilt, cond_few (not verdict.good && verdict.given));
      lost = omega (arith, e.lost, c.loop-want.invariant.lost, cond_few (verdict.checked && not verdict.given));
      judged = λ images row wanted holds.
          let layout = c.args.view.now.store.now.layout in
          let i = c.loop-want.want-index in
          let w = want_at layout c.args.view.now.wanted.wants.now row.blocks i _ wanted.is.blocks c.loop-want-test.true in
          let t = w.target in
          let on : IsOn row t = subst (IsOn row) (w.at t) (wanted.is.lie i t w.below) in
          let fits = c.judge_block-verdict.ensures.verdict images row t wanted.of wanted.knows holds w.is_sought in
          let count = row_counted row wanted.of.is.parity wanted.of.keeps_rule in
          let below : t.at.index < slice_count row = omega (arith, fits.index, ap (λ c. data_count c.profile (length c.stripes)) on.chunk) in
          let room : slice_count row * 65536 ≤ length c.loop-want.new = omega (arith, c.requires.new_room row wanted.of, count.whole, c.loop-want.auto.new) in
          rw (take_more row.blocks i t w.below, w.at t) (judged_more images layout row (take i row.blocks) t _ _ _ _ verdict below fits.inside room
          (c.loop-want.invariant.judged images row wanted holds) fits
          (record { blocks = e.blocks; bad = e.bad; rebuilt = e.rebuilt; lost = e.lost; met = e.met; broken = e.broken }) fits.long);
    }

pub returns : goal.returns
returns c = λ images row wanted holds.
    let long = same_count c.args.view.now.store.now.layout c.args.view.now.wanted.wants.now row.blocks wanted.is.blocks in
    rw (take_all c.loop-want.want-index row.blocks (omega (arith, long, c.loop-want-test.false))) at (c.loop-want.invariant.judged images row wanted holds)
