use Rattle.std.proofs.Common.{◌≡◌, ℕ, ◌+◌, ◌-◌, ◌<◌, List, length, take, slice_range, subst, arith, length-take}
use Rattle.btr_parity.specs.Solutions.{IsTheOne, WeighsWith}
use Rattle.btr_pool.specs.Slots.{bytes_at}
use Rattle.btr_read.proofs.Solutions.{solved_more}
use Rattle.btr_read.proofs.solving.solve.Goals as goal

pub loop-done-preserved : goal.loop-done-preserved
loop-done-preserved c =
    let old = c.args.pool.now in
    let now = c.loop-done.pool in
    let p : ℕ = c.args.p.now in
    let q : ℕ = c.args.q.now in
    let done : ℕ = c.loop-done.done in
    let end : ℕ = done + c.min.result in
    let e = c.solve_piece.ensures in
    let lt : done < end = omega (arith, c.min.ensures) in
    let n : ℕ = length (take (end - done) c.loop-done.buffer) in
    let there : done + n ≡ end = omega (arith, c.min.ensures, length-take (end - done) c.loop-done.buffer) in
    let few : n ≡ end - done = omega (arith, there) in
    let ps = bytes_at now p in
    let qs = bytes_at now q in
    let X : List ℕ = e.solved.0 in
    let one = subst (λ n. IsTheOne n (WeighsWith (slice_range ps done end) (slice_range qs done end) c.args.index c.args.other) X) few
    (subst (λ m. IsTheOne n (WeighsWith (slice_range ps done m) (slice_range qs done m) c.args.index c.args.other) X) there e.solved.1) in
    record {
      within = omega (arith, c.min.ensures);
      so_far = solved_more c.args.index c.args.other p q done end old now c.solve_piece.new.pool c.requires.live c.requires.apart lt
          (omega (arith, c.min.ensures, c.requires.fits)) c.loop-done.invariant.so_far e.long X one e.solved.2;
    }
