use Rattle.std.proofs.Common.{◌≡◌, ◌≢◌, ℕ, take, subst, sym}
use Rattle.btr_parity.specs.Solutions.{IsTheOne, WeighsWith}
use Rattle.btr_pool.specs.Slots.{bytes_at}
use Rattle.btr_read.specs.declared.candidate.Candidate.{Candidate}
use Rattle.btr_read.specs.declared.candidate.Candidate.TheVariants.{ByBoth}
use Rattle.btr_read.specs.declared.parity.Parity.TheVariants as parity
use Rattle.btr_read.specs.Candidates.{size_of, value_of}
use Rattle.btr_read.specs.Gathering.{IsGathered}
use Rattle.btr_read.proofs.Trials.{told, telling}
use Rattle.std.proofs.lemmas.Result.{err_from_is_err_and}
use Rattle.btr_read.proofs.Parts.{row_in, part_stands, range_in_candidate}
use Rattle.btr_read.proofs.Rebuilt.{by_both}
use Rattle.btr_read.proofs.rebuilding.rebuild_by_both.Goals as goal

pub returns-clause-value : goal.returns-clause-value
returns-clause-value g c =
    let t = c.args.search.now in
    let n : ℕ = size_of t in
    let both : Candidate = ByBoth c.args.other in
    let held = (g.R.Rack.seen c.args.rack.now).held in
    let e = c.in_ok-gather_both.ensures in
    let sum = take n (bytes_at c.gather_both.new.pool c.args.p.now) in
    let weighted = take n (bytes_at c.gather_both.new.pool c.args.q.now) in
    let slice = bytes_at c.solve.new.pool c.args.p.now in
    let sized : IsTheOne n (WeighsWith sum weighted c.index.result c.args.other) (take n slice) =
    subst (λ n. IsTheOne n (WeighsWith (take n (bytes_at c.gather_both.new.pool c.args.p.now))
    (take n (bytes_at c.gather_both.new.pool c.args.q.now)) c.index.result c.args.other) (take n slice)) c.size.ensures.value c.solve.ensures.one in
    let solves : IsTheOne n (WeighsWith sum weighted t.at.index c.args.other) (take n slice) =
    subst (λ i. IsTheOne n (WeighsWith sum weighted i c.args.other) (take n slice)) c.index.ensures sized in
    let differ : t.at.index ≢ c.args.other = λ e. c.requires.rebuilt.2 (sym e) in
    told held (λ images. value_of images t both ≡ take n slice) (λ images is.
    by_both images t c.args.other sum weighted (take n slice) e.sought.0 c.requires.rebuilt.1 differ
    (telling held (λ images. IsGathered images t both parity.P sum) e.of_p images is)
    (telling held (λ images. IsGathered images t both parity.Q weighted) e.of_q images is) solves)

pub gather_both-requires-clause-stands : goal.gather_both-requires-clause-stands
gather_both-requires-clause-stands g c = λ part h. part_stands c.args.search.now (ByBoth c.args.other) part c.requires.stands
    (row_in c.args.search.now c.args.other part h)

pub returns-in_err-gather_both-clause-account : goal.returns-in_err-gather_both-clause-account
returns-in_err-gather_both-clause-account g c =
    let t = c.args.search.now in
    let e = c.in_err-gather_both.ensures.account in
    let p = err_from_is_err_and c.from_residual.result c.from_residual.ensures.1 in
    rw (p.1, p.2) (e.0, e.1, e.2, range_in_candidate t (ByBoth c.args.other) _ e.0 (row_in t c.args.other _ e.4) e.3)
