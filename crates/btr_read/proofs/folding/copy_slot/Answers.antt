use Rattle.std.proofs.Common.{◌≡◌, ℕ, ◌+◌, ◌-◌, ◌<◌, length, take, slice_range, subst, arith, length-take}
use Rattle.btr_pool.specs.Slots.{bytes_at, with_bytes}
use Rattle.btr_rack.specs.Rack.{pasted}
use Rattle.btr_read.proofs.Pieces.{copied_more}
use Rattle.btr_read.proofs.folding.copy_slot.Goals as goal

pub loop-done-preserved : goal.loop-done-preserved
loop-done-preserved c =
    let old = c.args.pool.now in
    let now = c.loop-done.pool in
    let after = c.copy_piece.new.pool in
    let to : ℕ = c.args.to.now in
    let from : ℕ = c.args.from.now in
    let done : ℕ = c.loop-done.done in
    let end : ℕ = done + c.min.result in
    let e = c.copy_piece.ensures in
    let lt : done < end = omega (arith, c.min.ensures) in
    let there : done + length (take (end - done) c.loop-done.buffer) ≡ end = omega (arith, c.min.ensures, length-take (end - done) c.loop-done.buffer) in
    let whole : length (slice_range (bytes_at now from) done end) ≡ end - done =
    omega (arith, lt, there, subst (λ n. length (slice_range (bytes_at now from) done n) ≡ length (take (end - done) c.loop-done.buffer)) there e.whole) in
    let copied = subst (λ n. after ≡ with_bytes now to (pasted (bytes_at now to) done (slice_range (bytes_at now from) done n))) there e.copied in
    record {
      within = omega (arith, c.min.ensures);
      so_far = copied_more to from done end old now after c.requires.live c.requires.apart lt c.loop-done.invariant.so_far whole copied;
    }
