use Rattle.std.proofs.Common.{◌+◌, ◌-◌, ◌∙◌, ◌++◌, ap, arith, ◌≡◌}
use Rattle.std.specs.List.{flat_map, range_with_len}
use Rattle.btr_base.specs.Field.{number_at}
use Rattle.btr_text.proofs.Writing.{wrote_as, cut_as, cut_longer, cut_writes}
use Rattle.btr_block_text.specs.Chunk.{chunk_line, stripe_line, chunk_lines}
use Rattle.btr_block_text.proofs.Lines.{so_far_front, so_far_more, so_far_cut, so_far_ended, numbers_first, numbers_none, chunk_holds}
use Rattle.btr_block_text.proofs.chunk.write_chunk.Goals as goal

pub returns-in_err-push_all-clause-text : goal.returns-in_err-push_all-clause-text
returns-in_err-push_all-clause-text g c =
    let body = c.args.body.now in
    cut_writes c.from_residual.result c.from_residual.ensures.0
    (cut_longer (flat_map (stripe_line body) (range_with_len 0 (number_at 2 44 body)))
    (cut_as (chunk_line body) c.chunk_line.ensures c.in_err-push_all.ensures.text))

pub loop-i-init : goal.loop-i-init
loop-i-init g c =
    let body = c.args.body.now in
    let n = c.u16_at-i-end.result in
    let is : n - 0 ≡ number_at 2 44 body = omega (arith, c.u16_at-i-end.ensures) in
    record {
      text = so_far_front (flat_map (stripe_line body) (range_with_len 0 (n - 0))) (chunk_lines body)
          (ap (λ k. chunk_line body ++ flat_map (stripe_line body) (range_with_len 0 k)) is)
          (wrote_as (chunk_line body) c.chunk_line.ensures c.in_ok-push_all.ensures.text);
      account = c.in_ok-push_all.ensures.account;
    }

pub stripe_line-requires : goal.stripe_line-requires
stripe_line-requires g c = chunk_holds c.args.body.now c.requires c.u16_at-i-end.result c.loop-i.i c.u16_at-i-end.ensures c.loop-i-test.true

pub returns-in_err-push_all-2-clause-text : goal.returns-in_err-push_all-2-clause-text
returns-in_err-push_all-2-clause-text g c =
    let body = c.args.body.now in
    let i = c.loop-i.i in
    let n = c.u16_at-i-end.result in
    cut_writes c.from_residual-in_err-push_all-2.result c.from_residual-in_err-push_all-2.ensures.0
    (so_far_cut (flat_map (stripe_line body) (range_with_len (i + 1) (n - (i + 1)))) c.loop-i.invariant.text
    (numbers_first (stripe_line body) i n c.loop-i-test.true)
    (cut_as (stripe_line body i) c.stripe_line.ensures c.in_err-push_all-2.ensures.text))

pub loop-i-preserved : goal.loop-i-preserved
loop-i-preserved g c =
    let body = c.args.body.now in
    let i = c.loop-i.i in
    let n = c.u16_at-i-end.result in
    record {
      text = so_far_more (flat_map (stripe_line body) (range_with_len (i + 1) (n - (i + 1)))) c.loop-i.invariant.text
          (numbers_first (stripe_line body) i n c.loop-i-test.true)
          (wrote_as (stripe_line body i) c.stripe_line.ensures c.in_ok-push_all-2.ensures.text);
      account = c.in_ok-push_all-2.ensures.account ∙ c.loop-i.invariant.account;
    }

pub returns-clause-text : goal.returns-clause-text
returns-clause-text g c =
    so_far_ended c.loop-i.invariant.text (numbers_none (stripe_line c.args.body.now) c.loop-i.i c.u16_at-i-end.result (omega arith))
