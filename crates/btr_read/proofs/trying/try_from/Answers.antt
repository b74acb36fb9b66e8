use Rattle.std.proofs.Common.{◌≡◌, ℕ, ◌<◌, ◌≤◌, List, length, false, take, not, count_by, refl, subst, sym, ap, ◌∙◌, arith}
use Rattle.btr_pool.specs.Slots.{bytes_at}
use Rattle.btr_read.specs.Want.{passes}
use Rattle.btr_read.specs.Attempt.{FitsOutcome}
use Rattle.btr_read.specs.Candidates.{size_of, candidates, value_of}
use Rattle.btr_rack.proofs.Reading.{reads_none, reads_more}
use Rattle.btr_read.proofs.ReadsOn.{same_held, same_sure, open_still}
use Rattle.btr_read.proofs.Slots.{only_writes_none, only_writes_more, live_written}
use Rattle.btr_read.proofs.Serving.{still_none, still_more, still_forgets}
use Rattle.btr_read.proofs.Trials.{telling, tried_unfailed, tried_failed, differs_alone, absent_alone, reading_stands, reading_absent, all_ended, one_passes}
use Rattle.btr_read.proofs.trying.try_from.Goals as goal
use Rattle.btr_read.proofs.trying.try_from.Goals.{in-Differs, in-Absent, in-Failed}

pub try_candidate-requires-clause-open : goal.try_candidate-requires-clause-open
try_candidate-requires-clause-open g c = open_still c.args.search.now.devices c.loop-k.invariant.reads c.requires.open

pub try_candidate-requires-clause-live : goal.try_candidate-requires-clause-live
try_candidate-requires-clause-live g c = live_written c.args.pool.now c.loop-k.pool c.args.loan.now c.args.loan.now c.loop-k.invariant.writes c.requires.live

pub try_candidate-requires-clause-room : goal.try_candidate-requires-clause-room
try_candidate-requires-clause-room g c = omega (arith, c.requires.room, ap (count_by not) c.loop-k.invariant.writes.lent)

pub try_candidate-requires-clause-forgotten : goal.try_candidate-requires-clause-forgotten
try_candidate-requires-clause-forgotten g c = still_forgets c.args.kept.now.wants c.loop-k.kept.wants c.args.pool.now c.loop-k.pool c.args.loan.now
    c.loop-k.invariant.still c.requires.forgotten

pub loop-k-init : goal.loop-k-init
loop-k-init g c = record {
  reads = reads_none (g.R.Rack.seen c.args.rack.now);
  writes = only_writes_none c.args.pool.now c.args.loan.now;
  still = still_none c.args.kept.now.wants c.args.pool.now;
  nodes = refl;
  tried = λ before is h. h;
}

pub returns-in-Passed : goal.returns-in-Passed
returns-in-Passed g c =
    let t = c.args.search.now in
    let now = g.R.Rack.seen c.loop-k.rack in
    let after = g.R.Rack.seen c.try_candidate.new.rack in
    let e = c.in-Passed.ensures in
    let inv = c.loop-k.invariant in
    let lt : c.loop-k.k < length (candidates t) = omega (arith, c.loop-k-test.true, c.candidate_count-k-end.ensures) in
    let slot = bytes_at c.try_candidate.new.pool c.args.loan.now in
    let bytes : List ℕ = take (size_of t) slot in
    record {
      reads = reads_more inv.reads e.reads;
      pool = only_writes_more c.args.pool.now c.loop-k.pool c.try_candidate.new.pool c.args.loan.now inv.writes e.pool;
      kept = still_more c.args.kept.now.wants c.loop-k.kept.wants c.try_candidate.new.kept.wants c.args.pool.now c.loop-k.pool
          c.try_candidate.new.pool inv.still e.kept;
      nodes = e.nodes ∙ inv.nodes;
      outcome = λ before is h. subst (FitsOutcome t before after slot) (sym c.passed_after.ensures)
          (one_passes t before now after c.loop-k.failed c.loop-k.k c.candidate.result slot is.fresh (inv.tried before is h)
          c.candidate.ensures.value lt e.account e.attempt.0 e.attempt.1
          (λ images im. telling now.held (λ images. value_of images t c.candidate.result ≡ bytes) e.attempt.2 images (same_held inv.reads ∙ is.held ∙ im)));
    }

pub loop-k-preserved : goal.loop-k-preserved
loop-k-preserved g c =
    let t = c.args.search.now in
    let cand = c.candidate.result in
    let now = g.R.Rack.seen c.loop-k.rack in
    let after = g.R.Rack.seen c.try_candidate.new.rack in
    let all = c.try_candidate.ensures in
    let inv = c.loop-k.invariant in
    let lt : c.loop-k.k < length (candidates t) = omega (arith, c.loop-k-test.true, c.candidate_count-k-end.ensures) in
    record {
      reads = reads_more inv.reads all.reads;
      writes = only_writes_more c.args.pool.now c.loop-k.pool c.try_candidate.new.pool c.args.loan.now inv.writes all.pool;
      still = still_more c.args.kept.now.wants c.loop-k.kept.wants c.try_candidate.new.kept.wants c.args.pool.now c.loop-k.pool
          c.try_candidate.new.pool inv.still all.kept;
      nodes = all.nodes ∙ inv.nodes;
      tried = λ before is h. elim c.match-try_candidate.branch [
        | in-Differs w ↦
            let e = w.in-Differs.ensures in
            rw w.failed-is (tried_unfailed t before now after c.loop-k.failed c.loop-k.k cand (inv.tried before is h)
            c.candidate.ensures.value lt e.account (λ images im. differs_alone images t cand (value_of images t cand)
            (reading_stands images t cand e.attempt.0) (telling now.held (λ images. passes t.setting t.want (value_of images t cand) ≡ false)
            e.attempt.1 images (same_held inv.reads ∙ is.held ∙ im))))
        | in-Absent w ↦
            let e = w.in-Absent.ensures in
            rw w.failed-is (tried_unfailed t before now after c.loop-k.failed c.loop-k.k cand (inv.tried before is h)
            c.candidate.ensures.value lt e.account (λ images im. absent_alone images t cand (reading_absent images t cand e.attempt)))
        | in-Failed w ↦
            let e = w.in-Failed.ensures in
            rw w.failed-is (tried_failed t before now after c.loop-k.failed c.loop-k.k _ cand (inv.tried before is h)
            c.candidate.ensures.value lt (omega (arith, c.loop-k-test.true, c.candidate_count-k-end.type_inv)) (same_sure inv.reads ∙ is.sure)
            e.attempt e.account)
      ];
    }

pub returns-clause-outcome : goal.returns-clause-outcome
returns-clause-outcome g c = λ before is h.
    let t = c.args.search.now in
    let now = g.R.Rack.seen c.loop-k.rack in
    let slot = bytes_at c.loop-k.pool c.args.loan.now in
    let le : length (candidates t) ≤ c.loop-k.k = omega (arith, c.loop-k-test.false, c.candidate_count-k-end.ensures) in
    subst (FitsOutcome t before now slot) (sym c.ended_after.ensures)
    (all_ended t before now c.loop-k.failed c.loop-k.k slot is.fresh le (c.loop-k.invariant.tried before is h))
