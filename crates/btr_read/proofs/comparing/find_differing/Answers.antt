use Rattle.std.proofs.Common.{◌≡◌, ℕ, ◌<◌, ◌≤◌, List, length, false, not, count_by, refl, sym, ap, ◌∙◌, arith, Some, None, true, take}
use Rattle.btr_pool.specs.Slots.{bytes_at}
use Rattle.btr_read.specs.Want.{passes}
use Rattle.btr_read.specs.Candidates.{size_of, candidates, value_of}
use Rattle.btr_read.specs.Gathering.{front_for}
use Rattle.btr_read.specs.Comparing.{AreAlike, differ, other_of}
use Rattle.btr_rack.proofs.Reading.{reads_none, reads_more}
use Rattle.btr_read.proofs.Compared.{one_read, one_missed, up_to_all, other_read, alike_then, same_then, alike_none}
use Rattle.btr_read.proofs.ReadsOn.{same_held, open_still}
use Rattle.btr_read.proofs.Slots.{only_writes_none, only_writes_more, live_written}
use Rattle.btr_read.proofs.Serving.{still_none, still_more, still_forgets}
use Rattle.btr_read.proofs.Trials.{telling, differs_alone, absent_alone, reading_stands, reading_absent}
use Rattle.btr_read.proofs.comparing.find_differing.Goals as goal
use Rattle.btr_read.proofs.comparing.find_differing.Goals.{in-Passed+else-slots_differ, in-Differs, in-Absent, in-Failed}

pub try_candidate-requires-clause-open : goal.try_candidate-requires-clause-open
try_candidate-requires-clause-open g c = open_still c.args.search.now.devices c.loop-k.invariant.reads c.requires.open

pub try_candidate-requires-clause-live : goal.try_candidate-requires-clause-live
try_candidate-requires-clause-live g c = live_written c.args.pool.now c.loop-k.pool c.args.other.now c.args.other.now c.loop-k.invariant.writes
    c.requires.other

pub try_candidate-requires-clause-room : goal.try_candidate-requires-clause-room
try_candidate-requires-clause-room g c = omega (arith, c.requires.room, ap (count_by not) c.loop-k.invariant.writes.lent)

pub try_candidate-requires-clause-forgotten : goal.try_candidate-requires-clause-forgotten
try_candidate-requires-clause-forgotten g c = still_forgets c.args.kept.now.wants c.loop-k.kept.wants c.args.pool.now c.loop-k.pool c.args.other.now
    c.loop-k.invariant.still c.requires.forgotten

pub loop-k-init : goal.loop-k-init
loop-k-init g c = record {
  reads = reads_none (g.R.Rack.seen c.args.rack.now);
  writes = only_writes_none c.args.pool.now c.args.other.now;
  still = still_none c.args.kept.now.wants c.args.pool.now;
  nodes = refl;
  so_far = λ old is h. h;
}

pub returns-then-slots_differ : goal.returns-then-slots_differ
returns-then-slots_differ g c =
    let t = c.args.search.now in
    let now = g.R.Rack.seen c.loop-k.rack in
    let after = g.R.Rack.seen c.try_candidate.new.rack in
    let e = c.in-Passed.ensures in
    let cand = c.candidate.result in
    let inv = c.loop-k.invariant in
    let lt : c.loop-k.k < length (candidates t) = omega (arith, c.loop-k-test.true, c.candidate_count-k-end.ensures) in
    let block : List ℕ = front_for t c.args.pool.now c.args.first.now in
    let bytes : List ℕ = front_for t c.try_candidate.new.pool c.args.other.now in
    let writes = only_writes_more c.args.pool.now c.loop-k.pool c.try_candidate.new.pool c.args.other.now inv.writes e.pool in
    let same : front_for t c.try_candidate.new.pool c.args.first.now ≡ block = ap (take (size_of t))
    (writes.others c.args.first.now c.requires.apart c.requires.first.lent) in
    let differs : differ block bytes ≡ true =
    ap (λ b. differ b bytes) (sym same) ∙ ap (λ n. differ (take n (bytes_at c.try_candidate.new.pool c.args.first.now))
    (take n (bytes_at c.try_candidate.new.pool c.args.other.now))) (sym c.size.ensures.value) ∙ sym c.slots_differ.ensures
    ∙ c.if-slots_differ.true in
    record {
      reads = reads_more inv.reads e.reads;
      pool = writes;
      kept = still_more c.args.kept.now.wants c.loop-k.kept.wants c.try_candidate.new.kept.wants c.args.pool.now c.loop-k.pool
          c.try_candidate.new.pool inv.still e.kept;
      nodes = e.nodes ∙ inv.nodes;
      other = λ old is h. record {
        there = lt;
        candidate = cand;
        at = c.candidate.ensures.value;
        standing = e.attempt.0;
        other = other_read t old now after c.loop-k.k cand block bytes (inv.so_far old is h) c.candidate.ensures.value lt e.account (λ images im.
            reading_stands images t cand e.attempt.0 ∙ ap Some
            (telling now.held (λ images. value_of images t cand ≡ bytes) e.attempt.2 images (same_held inv.reads ∙ sym is ∙ im))) e.attempt.1
            differs;
      };
    }

pub loop-k-preserved : goal.loop-k-preserved
loop-k-preserved g c =
    let t = c.args.search.now in
    let now = g.R.Rack.seen c.loop-k.rack in
    let after = g.R.Rack.seen c.try_candidate.new.rack in
    let all = c.try_candidate.ensures in
    let cand = c.candidate.result in
    let inv = c.loop-k.invariant in
    let lt : c.loop-k.k < length (candidates t) = omega (arith, c.loop-k-test.true, c.candidate_count-k-end.ensures) in
    let block : List ℕ = front_for t c.args.pool.now c.args.first.now in
    let writes = only_writes_more c.args.pool.now c.loop-k.pool c.try_candidate.new.pool c.args.other.now inv.writes all.pool in
    record {
      reads = reads_more inv.reads all.reads;
      writes = writes;
      still = still_more c.args.kept.now.wants c.loop-k.kept.wants c.try_candidate.new.kept.wants c.args.pool.now c.loop-k.pool
          c.try_candidate.new.pool inv.still all.kept;
      nodes = all.nodes ∙ inv.nodes;
      so_far = λ old is h. elim c.match-try_candidate.branch [
        | in-Passed+else-slots_differ w ↦
            let e = w.in-Passed.ensures in
            let bytes : List ℕ = front_for t c.try_candidate.new.pool c.args.other.now in
            let same : front_for t c.try_candidate.new.pool c.args.first.now ≡ block = ap (take (size_of t))
            (writes.others c.args.first.now c.requires.apart c.requires.first.lent) in
            let alike : differ block bytes ≡ false =
            ap (λ b. differ b bytes) (sym same) ∙ ap (λ n. differ (take n (bytes_at c.try_candidate.new.pool c.args.first.now))
            (take n (bytes_at c.try_candidate.new.pool c.args.other.now))) (sym w.size.ensures.value) ∙ sym w.slots_differ.ensures
            ∙ w.if-slots_differ.false in
            one_read t old now after c.loop-k.k cand (AreAlike t block) (AreAlike t block) (inv.so_far old is h) c.candidate.ensures.value lt e.account
            (λ images im. same_then images t block bytes cand (reading_stands images t cand e.attempt.0
            ∙ ap Some (telling now.held (λ images. value_of images t cand ≡ bytes) e.attempt.2 images (same_held inv.reads ∙ sym is ∙ im))) alike)
        | in-Differs w ↦
            let e = w.in-Differs.ensures in
            one_read t old now after c.loop-k.k cand (AreAlike t block) (AreAlike t block) (inv.so_far old is h) c.candidate.ensures.value lt e.account
            (λ images im. alike_then images t block cand (differs_alone images t cand (value_of images t cand) (reading_stands images t cand e.attempt.0)
            (telling now.held (λ images. passes t.setting t.want (value_of images t cand) ≡ false) e.attempt.1 images
            (same_held inv.reads ∙ sym is ∙ im))))
        | in-Absent w ↦
            let e = w.in-Absent.ensures in
            one_read t old now after c.loop-k.k cand (AreAlike t block) (AreAlike t block) (inv.so_far old is h) c.candidate.ensures.value lt e.account
            (λ images im. alike_then images t block cand (absent_alone images t cand (reading_absent images t cand e.attempt)))
        | in-Failed w ↦ one_missed t old now after c.loop-k.k _ cand (AreAlike t block) (inv.so_far old is h) c.candidate.ensures.value lt
            w.in-Failed.ensures.account
      ];
    }

pub returns-clause-other : goal.returns-clause-other
returns-clause-other g c = λ old is h.
    let t = c.args.search.now in
    let block : List ℕ = front_for t c.args.pool.now c.args.first.now in
    let le : length (candidates t) ≤ c.loop-k.k = omega (arith, c.loop-k-test.false, c.candidate_count-k-end.ensures) in
    up_to_all t old (g.R.Rack.seen c.loop-k.rack) c.loop-k.k (AreAlike t block) (λ images cs. other_of images t cs ≡ None) le
    (c.loop-k.invariant.so_far old is h) (λ images cs are. alike_none images t block cs are)
