use Rattle.std.proofs.Common.{◌≡◌, ℕ, ◌+◌, ◌-◌, ◌*◌, ◌^◌, ◌<◌, ◌≤◌, ◌∙◌, inl, inr, List, sym, ap, subst, length, get_or, bit_xor, arith}
use Rattle.std.proofs.lemmas.Bool.{cases_lt}
use lib.Lanes.{put_chunk}
use Rattle.std.proofs.lemmas.Simd.{length-put_chunk, get_or-put_chunk_below, get_or-put_chunk_at}
use Rattle.btr_base.specs.Fold.{near, sent, received}
use Rattle.btr_base.proofs.Behind.{block_fits, kept_fits, kept_left, zeros_at}
use Rattle.btr_base.proofs.crc.fold.left_of.Goals as goal

pub loop-k-init : goal.loop-k-init
loop-k-init c =
    let all = c.no_bytes-left.ensures in
    record {
      sized = ap length all;
      lasts = λ j lt. absurd (omega arith);
      fits = λ i. omega (arith, zeros_at 176 c.no_bytes-left.result i all);
    }

pub loop-k-preserved : goal.loop-k-preserved
loop-k-preserved c =
    let n = 16 * c.loop-k.k in
    let next : 16 * (c.loop-k.k + 1) ≡ n + 16 = omega arith in
    let ys = c.drop_kept-nearer.result in
    let xs = c.loop-k.left in
    let block = c.kept_at-block.result in
    let from = c.args.from in
    let lane : ℕ → ℕ = λ j. bit_xor (received c.args.dropped.now c.args.bytes.now (from + j)) (sent near ys j) in
    let before = c.loop-k.invariant in
    let is = c.store.ensures in
    let long = c.kept_at-block.ensures.long in
    let room : n + 16 ≤ length xs = omega (arith, before.sized, c.loop-k-test.true) in
    record {
      sized = ap length is ∙ length-put_chunk n xs block ∙ before.sized;
      lasts = λ j lt. ap (λ (l : List ℕ). get_or l j 0) is ∙ elim (cases_lt j n) [
        | inl earlier ↦ get_or-put_chunk_below n xs block j 0 earlier ∙ before.lasts j earlier
        | inr le ↦
            let i = j - n in
            let place : j ≡ n + i = omega arith in
            let here : 400 + n + i ≡ 400 + j = omega arith in
            ap (λ p. get_or (put_chunk n xs block) p 0) place ∙ get_or-put_chunk_at n xs block i 0 (omega (arith, long, next)) (omega (arith, long, room))
            ∙ c.kept_at-block.ensures.sums i (omega (arith, next)) ∙ ap lane here
      ];
      fits = λ i. subst (λ (l : List ℕ). get_or l i 0 < 2 ^ 8) (sym is)
          (block_fits 16 n (λ i. lane (400 + n + i)) xs block long room
          c.kept_at-block.ensures.sums
          (λ i. kept_fits c.args.dropped.now ys c.args.bytes.now (from + (400 + n + i)) (400 + n + i) (λ i. omega (arith, c.fits-dropped i))
          c.drop_kept-nearer.ensures.fits (λ i. omega (arith, c.type_inv.bytes i)))
          before.fits i);
    }

pub returns : goal.returns
returns c =
    let nearer = c.drop_kept-nearer.ensures in
    kept_left (λ j. received c.args.dropped.now c.args.bytes.now (c.args.from + j)) c.drop_kept-nearer.result c.loop-k.left
    (λ i. omega (arith, nearer.fits i)) nearer.none
    (λ j lt. nearer.sent j lt) nearer.end c.loop-k.invariant.sized c.loop-k.invariant.fits (λ j lt. c.loop-k.invariant.lasts j (omega arith))
