use Rattle.std.proofs.Common.{◌≡◌, ℕ, ◌<◌, ◌≤◌, List, length, false, not, count_by, refl, ap, ◌∙◌, arith, Some, take}
use Rattle.btr_pool.specs.Slots.{bytes_at}
use Rattle.btr_read.specs.Want.{passes}
use Rattle.btr_read.specs.Candidates.{size_of, candidates, value_of}
use Rattle.btr_read.specs.Comparing.{AreAlike, NonePass}
use Rattle.btr_rack.proofs.Reading.{reads_none, reads_more}
use Rattle.btr_read.proofs.Compared.{none_yet, one_read, one_missed, up_to_all, none_then, first_then}
use Rattle.btr_read.proofs.ReadsOn.{same_held, open_still}
use Rattle.btr_read.proofs.Slots.{only_writes_none, only_writes_more, live_written}
use Rattle.btr_read.proofs.Serving.{still_none, still_more, still_forgets}
use Rattle.btr_read.proofs.Trials.{telling, told, differs_alone, absent_alone, reading_stands, reading_absent}
use Rattle.btr_read.proofs.comparing.find_first.Goals as goal
use Rattle.btr_read.proofs.comparing.find_first.Goals.{in-Differs, in-Absent, in-Failed}

pub try_candidate-requires-clause-open : goal.try_candidate-requires-clause-open
try_candidate-requires-clause-open g c = open_still c.args.search.now.devices c.loop-k.invariant.reads c.requires.open

pub try_candidate-requires-clause-live : goal.try_candidate-requires-clause-live
try_candidate-requires-clause-live g c = live_written c.args.pool.now c.loop-k.pool c.args.loan.now c.args.loan.now c.loop-k.invariant.writes
    c.requires.live

pub try_candidate-requires-clause-room : goal.try_candidate-requires-clause-room
try_candidate-requires-clause-room g c = omega (arith, c.requires.room, ap (count_by not) c.loop-k.invariant.writes.lent)

pub try_candidate-requires-clause-forgotten : goal.try_candidate-requires-clause-forgotten
try_candidate-requires-clause-forgotten g c = still_forgets c.args.kept.now.wants c.loop-k.kept.wants c.args.pool.now c.loop-k.pool c.args.loan.now
    c.loop-k.invariant.still c.requires.forgotten

pub loop-k-init : goal.loop-k-init
loop-k-init g c = record {
  reads = reads_none (g.R.Rack.seen c.args.rack.now);
  writes = only_writes_none c.args.pool.now c.args.loan.now;
  still = still_none c.args.kept.now.wants c.args.pool.now;
  nodes = refl;
  so_far = none_yet c.args.search.now (g.R.Rack.seen c.args.rack.now) (NonePass c.args.search.now)
      (told (g.R.Rack.seen c.args.rack.now).held _ (λ images e. refl));
}

pub returns-in-Passed : goal.returns-in-Passed
returns-in-Passed g c =
    let t = c.args.search.now in
    let now = g.R.Rack.seen c.loop-k.rack in
    let e = c.in-Passed.ensures in
    let cand = c.candidate.result in
    let inv = c.loop-k.invariant in
    let lt : c.loop-k.k < length (candidates t) = omega (arith, c.loop-k-test.true, c.candidate_count-k-end.ensures) in
    let block : List ℕ = take (size_of t) (bytes_at c.try_candidate.new.pool c.args.loan.now) in
    record {
      reads = reads_more inv.reads e.reads;
      pool = only_writes_more c.args.pool.now c.loop-k.pool c.try_candidate.new.pool c.args.loan.now inv.writes e.pool;
      kept = still_more c.args.kept.now.wants c.loop-k.kept.wants c.try_candidate.new.kept.wants c.args.pool.now c.loop-k.pool
          c.try_candidate.new.pool inv.still e.kept;
      nodes = e.nodes ∙ inv.nodes;
      few = omega (arith, c.loop-k-test.true, c.candidate_count-k-end.type_inv);
      first = (
        lt,
        one_read t (g.R.Rack.seen c.args.rack.now) now (g.R.Rack.seen c.try_candidate.new.rack) c.loop-k.k cand (NonePass t) (AreAlike t block)
            inv.so_far c.candidate.ensures.value lt e.account (λ images im cs none. first_then images t block cand
            (reading_stands images t cand e.attempt.0
            ∙ ap Some (telling now.held (λ images. value_of images t cand ≡ block) e.attempt.2 images (same_held inv.reads ∙ im))) e.attempt.1 cs none),
      );
    }

pub loop-k-preserved : goal.loop-k-preserved
loop-k-preserved g c =
    let t = c.args.search.now in
    let old = g.R.Rack.seen c.args.rack.now in
    let now = g.R.Rack.seen c.loop-k.rack in
    let after = g.R.Rack.seen c.try_candidate.new.rack in
    let all = c.try_candidate.ensures in
    let cand = c.candidate.result in
    let inv = c.loop-k.invariant in
    let lt : c.loop-k.k < length (candidates t) = omega (arith, c.loop-k-test.true, c.candidate_count-k-end.ensures) in
    record {
      reads = reads_more inv.reads all.reads;
      writes = only_writes_more c.args.pool.now c.loop-k.pool c.try_candidate.new.pool c.args.loan.now inv.writes all.pool;
      still = still_more c.args.kept.now.wants c.loop-k.kept.wants c.try_candidate.new.kept.wants c.args.pool.now c.loop-k.pool
          c.try_candidate.new.pool inv.still all.kept;
      nodes = all.nodes ∙ inv.nodes;
      so_far = elim c.match-try_candidate.branch [
        | in-Differs w ↦
            let e = w.in-Differs.ensures in
            one_read t old now after c.loop-k.k cand (NonePass t) (NonePass t) inv.so_far c.candidate.ensures.value lt e.account (λ images im.
            none_then images t cand (differs_alone images t cand (value_of images t cand) (reading_stands images t cand e.attempt.0)
            (telling now.held (λ images. passes t.setting t.want (value_of images t cand) ≡ false) e.attempt.1 images (same_held inv.reads ∙ im))))
        | in-Absent w ↦
            let e = w.in-Absent.ensures in
            one_read t old now after c.loop-k.k cand (NonePass t) (NonePass t) inv.so_far c.candidate.ensures.value lt e.account
            (λ images im. none_then images t cand (absent_alone images t cand (reading_absent images t cand e.attempt)))
        | in-Failed w ↦ one_missed t old now after c.loop-k.k _ cand (NonePass t) inv.so_far c.candidate.ensures.value lt w.in-Failed.ensures.account
      ];
    }

pub returns-clause-first : goal.returns-clause-first
returns-clause-first g c =
    let t = c.args.search.now in
    let le : length (candidates t) ≤ c.loop-k.k = omega (arith, c.loop-k-test.false, c.candidate_count-k-end.ensures) in
    up_to_all t (g.R.Rack.seen c.args.rack.now) (g.R.Rack.seen c.loop-k.rack) c.loop-k.k (NonePass t) (NonePass t) le c.loop-k.invariant.so_far
    (λ images cs none. none)
