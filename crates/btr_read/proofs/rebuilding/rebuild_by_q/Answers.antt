use Rattle.std.proofs.Common.{◌≡◌, ℕ, take, subst}
use Rattle.btr_parity.specs.Solutions.{IsTheOne, Weighs}
use Rattle.btr_pool.specs.Slots.{bytes_at}
use Rattle.btr_read.specs.declared.candidate.Candidate.TheVariants.{ByQ}
use Rattle.btr_read.specs.declared.parity.Parity.TheVariants as parity
use Rattle.btr_read.specs.Candidates.{size_of, value_of}
use Rattle.btr_read.specs.Gathering.{IsGathered}
use Rattle.btr_read.proofs.Trials.{told, telling}
use Rattle.btr_read.proofs.Rebuilt.{by_q}
use Rattle.btr_read.proofs.rebuilding.rebuild_by_q.Goals as goal

pub returns-clause-value : goal.returns-clause-value
returns-clause-value g c =
    let t = c.args.search.now in
    let n : ℕ = size_of t in
    let left = bytes_at c.gather.new.pool c.args.loan.now in
    let slice = bytes_at c.divide.new.pool c.args.loan.now in
    let sized : IsTheOne n (Weighs c.index.result (take n left)) (take n slice) =
    subst (λ n. IsTheOne n (Weighs c.index.result (take n left)) (take n slice)) c.size.ensures.value c.divide.ensures.one in
    let weighs : IsTheOne n (Weighs t.at.index (take n left)) (take n slice) =
    subst (λ i. IsTheOne n (Weighs i (take n left)) (take n slice)) c.index.ensures sized in
    told (g.R.Rack.seen c.args.rack.now).held (λ images. value_of images t ByQ ≡ take n slice) (λ images is.
    by_q images t (take n left) (take n slice) c.in_ok-gather.ensures.sought.0
    (telling (g.R.Rack.seen c.args.rack.now).held (λ images. IsGathered images t ByQ parity.Q (take n left)) c.in_ok-gather.ensures.bytes images is) weighs)
