use Rattle.std.proofs.Common.{◌≡◌, ℕ, ◌+◌, ◌*◌, ◌^◌, ◌<◌, ◌∙◌, List, sym, ap, subst, length, get_or, bit_xor, arith}
use Rattle.std.proofs.lemmas.Simd.{length-put_chunk, get_or-put_chunk_below, get_or-put_chunk_above}
use Rattle.btr_base.specs.Fold.{near, sent, received}
use Rattle.btr_base.proofs.Behind.{block_sent, block_fits, kept_fits, near_within, zeros_at}
use Rattle.btr_base.proofs.crc.fold.drop_kept.Goals as goal

pub loop-k-init : goal.loop-k-init
loop-k-init c =
    let all = c.no_bytes-nearer.ensures in
    record {
      sized = ap length all;
      none = λ i lt. zeros_at 720 c.no_bytes-nearer.result i all;
      sent = λ j lt. absurd (omega arith);
      end = λ i le. zeros_at 720 c.no_bytes-nearer.result i all;
      fits = λ i. omega (arith, zeros_at 720 c.no_bytes-nearer.result i all);
    }

pub loop-k-preserved : goal.loop-k-preserved
loop-k-preserved c =
    let n = 16 * c.loop-k.k in
    let next : 16 * (c.loop-k.k + 1) ≡ n + 16 = omega arith in
    let ys = c.loop-k.nearer in
    let block = c.kept_at-block.result in
    let byte : ℕ → ℕ = λ j. received c.args.dropped.now c.args.bytes.now (c.args.from + j) in
    let before = c.loop-k.invariant in
    let is = c.store.ensures in
    let long = c.kept_at-block.ensures.long in
    record {
      sized = ap length is ∙ length-put_chunk (176 + n) ys block ∙ before.sized;
      none = λ i lt. ap (λ (l : List ℕ). get_or l i 0) is ∙ get_or-put_chunk_below (176 + n) ys block i 0 (omega arith) ∙ before.none i lt;
      sent = λ j lt. subst (λ (l : List ℕ). get_or l (j + 176) 0 ≡ bit_xor (byte j) (sent near l j)) (sym is)
          (block_sent 176 144 16 n near byte ys block near_within (omega arith) long (omega (arith, before.sized, c.loop-k-test.true))
          c.kept_at-block.ensures.sums before.sent j (omega (arith, next)));
      end = λ i le. ap (λ (l : List ℕ). get_or l i 0) is ∙ get_or-put_chunk_above (176 + n) ys block i 0 (omega (arith, long, next))
          ∙ before.end i (omega (arith, next));
      fits = λ i. subst (λ (l : List ℕ). get_or l i 0 < 2 ^ 8) (sym is)
          (block_fits 16 (176 + n) (λ i. bit_xor (byte (n + i)) (sent near ys (n + i))) ys block long (omega (arith, before.sized, c.loop-k-test.true))
          c.kept_at-block.ensures.sums
          (λ i. kept_fits c.args.dropped.now ys c.args.bytes.now (c.args.from + (n + i)) (n + i) (λ i. omega (arith, c.fits-dropped i)) before.fits
          (λ i. omega (arith, c.type_inv.bytes i)))
          before.fits i);
    }
