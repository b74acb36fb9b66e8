use Rattle.std.proofs.Common.{◌≡◌, ℕ, ◌+◌, ◌*◌, ◌^◌, ◌<◌, ◌∙◌, List, sym, ap, subst, length, take, get_or, arith}
use Rattle.std.proofs.lemmas.Simd.{length-put_chunk}
use Rattle.btr_base.specs.Fold.{far, received}
use Rattle.btr_base.proofs.Behind.{block_sent, block_front, block_fits, received_fits, far_within}
use Rattle.btr_base.proofs.crc.fold.send.Goals as goal

pub loop-k-preserved : goal.loop-k-preserved
loop-k-preserved c =
    let n = 64 * c.loop-k.k in
    let next : 64 * (c.loop-k.k + 1) ≡ n + 64 = omega arith in
    let xs = c.loop-k.dropped in
    let block = c.received_at-block.result in
    let bytes = c.args.bytes.now in
    let before = c.loop-k.invariant in
    let is = c.store.ensures in
    record {
      sized = ap length is ∙ length-put_chunk (561 + n) xs block ∙ before.sized;
      kept = ap (take 561) is ∙ block_front 561 n xs block ∙ before.kept;
      sent = λ j lt. subst (λ (l : List ℕ). get_or l (j + 561) 0 ≡ received l bytes j) (sym is)
          (block_sent 561 300 64 n far (λ i. get_or bytes i 0) xs block far_within (omega arith) c.received_at-block.ensures.long
          (omega (arith, before.sized, c.requires.room, c.loop-k-test.true))
          c.received_at-block.ensures.sums before.sent j (omega (arith, next)));
      fits = λ i. subst (λ (l : List ℕ). get_or l i 0 < 2 ^ 8) (sym is)
          (block_fits 64 (561 + n) (λ i. received xs bytes (n + i)) xs block c.received_at-block.ensures.long
          (omega (arith, before.sized, c.requires.room, c.loop-k-test.true))
          c.received_at-block.ensures.sums (λ i. received_fits xs bytes (n + i) before.fits (λ i. omega (arith, c.type_inv.bytes i))) before.fits i);
    }
