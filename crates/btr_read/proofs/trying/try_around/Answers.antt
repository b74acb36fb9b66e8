use Rattle.std.proofs.Common.{◌≡◌, ℕ, List, take, Some, sym, subst, ◌∙◌, arith}
use Rattle.std.proofs.lemmas.Option.{get_or_from_slice_get}
use Rattle.btr_pool.specs.Slots.{bytes_at}
use Rattle.btr_read.specs.Candidates.{Target, size_of, candidates, value_of}
use Rattle.btr_read.specs.Trial.{TriedSoFar}
use Rattle.btr_read.proofs.ReadsOn.{open_still}
use Rattle.btr_read.proofs.Serving.{still_more}
use Rattle.btr_read.proofs.Trials.{telling, began_on, tried_still, tried_missed, later_passes}
use Rattle.btr_read.proofs.trying.try_around.Goals as goal
use Rattle.btr_read.proofs.trying.try_around.Goals.{in-Differs, in-Absent, in-Failed}

pub try_from-requires-clause-open : goal.try_from-requires-clause-open
try_from-requires-clause-open g c = open_still c.args.search.now.devices c.try_candidate.ensures.reads c.requires.open

pub returns-in-Passed-clause-outcome : goal.returns-in-Passed-clause-outcome
returns-in-Passed-clause-outcome g c = λ before is h.
    let t : Target = c.args.search.now in
    let now = g.R.Rack.seen c.args.rack.now in
    let after = g.R.Rack.seen c.try_candidate.new.rack in
    let cand = c.candidate-other.result in
    let e = c.in-Passed.ensures in
    let slot = bytes_at c.try_candidate.new.pool c.args.loan.now in
    let bytes : List ℕ = take (size_of t) slot in
    later_passes t before now after c.args.unread.slot c.args.tried c.without.result cand slot h c.candidate-other.ensures.value c.without.ensures
    e.account e.attempt.0 e.attempt.1
    (λ images im. telling now.held (λ images. value_of images t cand ≡ bytes) e.attempt.2 images (is.held ∙ im))

pub returns-clause-outcome : goal.returns-clause-outcome
returns-clause-outcome g c = λ before is h.
    let t : Target = c.args.search.now in
    let now = g.R.Rack.seen c.args.rack.now in
    let after = g.R.Rack.seen c.try_candidate.new.rack in
    let cand = c.candidate-other.result in
    let k : ℕ = c.args.tried in
    let last = c.args.unread.slot in
    let tried : TriedSoFar t before after (Some c.match-try_candidate.last) k =
    elim c.match-try_candidate.branch [
      | in-Differs w ↦ subst (λ l. TriedSoFar t before after (Some l) k) (sym w.last-is)
          (tried_still t before now after (Some last) k h w.in-Differs.ensures.account)
      | in-Absent w ↦ subst (λ l. TriedSoFar t before after (Some l) k) (sym w.last-is)
          (tried_still t before now after (Some last) k h w.in-Absent.ensures.account)
      | in-Failed w ↦
          let missed = w.in-Failed.ensures.account in
          subst (λ l. TriedSoFar t before after (Some l) k) (sym w.last-is)
          (tried_missed t before now after (Some last) k w.in-Failed.slot missed.0 h (omega (arith, c.ranges.tried.fits)) is.sure (
            c.without.result,
            cand,
            c.without.ensures,
            get_or_from_slice_get (candidates t) c.without.result cand cand c.candidate-other.ensures.value,
            (w.in-Failed.ensures.attempt, missed.3),
          ) missed.1 missed.2)
    ]
    in
    c.try_from.ensures.outcome before (began_on c.try_candidate.ensures.reads is) tried

pub returns-clause-kept : goal.returns-clause-kept
returns-clause-kept g c =
    still_more c.args.kept.now.wants c.try_candidate.new.kept.wants c.try_from.new.kept.wants c.args.pool.now c.try_candidate.new.pool
    c.try_from.new.pool c.try_candidate.ensures.kept c.try_from.ensures.kept
