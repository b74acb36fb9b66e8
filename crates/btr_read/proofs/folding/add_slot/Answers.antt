use Rattle.std.proofs.Common.{◌≡◌, ℕ, ◌+◌, ◌-◌, ◌<◌, length, take, slice_range, subst, arith, length-take}
use Rattle.btr_parity.specs.Slices.{plus}
use Rattle.btr_pool.specs.Slots.{bytes_at, with_bytes}
use Rattle.btr_rack.specs.Rack.{pasted}
use Rattle.btr_read.specs.Gathering.{weighed}
use Rattle.btr_read.proofs.Pieces.{added_more}
use Rattle.btr_read.proofs.folding.add_slot.Goals as goal

pub loop-done-preserved : goal.loop-done-preserved
loop-done-preserved c =
    let old = c.args.pool.now in
    let now = c.loop-done.pool in
    let after = c.add_piece.new.pool in
    let sum : ℕ = c.args.sum.now in
    let slice : ℕ = c.args.slice.now in
    let done : ℕ = c.loop-done.done in
    let end : ℕ = done + c.min.result in
    let e = c.add_piece.ensures in
    let lt : done < end = omega (arith, c.min.ensures) in
    let there : done + length (take (end - done) c.loop-done.buffer) ≡ end = omega (arith, c.min.ensures, length-take (end - done) c.loop-done.buffer) in
    let whole : length (slice_range (bytes_at now slice) done end) ≡ end - done =
    omega (arith, lt, there, subst (λ n. length (slice_range (bytes_at now slice) done n) ≡ length (take (end - done) c.loop-done.buffer)) there e.whole) in
    let added = subst (λ n. after ≡ with_bytes now sum (pasted (bytes_at now sum) done
    (plus (slice_range (bytes_at now sum) done n) (weighed c.args.parity c.args.index (slice_range (bytes_at now slice) done n))))) there e.added in
    record {
      within = omega (arith, c.min.ensures);
      so_far = added_more c.args.parity c.args.index sum slice done end old now after c.requires.live c.requires.apart lt
          (omega (arith, c.min.ensures, c.requires.fits)) c.loop-done.invariant.so_far e.long whole added;
    }
