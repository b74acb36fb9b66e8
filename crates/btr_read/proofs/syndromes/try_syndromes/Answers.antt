use Rattle.std.proofs.Common.{◌≡◌, ℕ, ◌<◌, ◌≤◌, List, length, false, take, IfSome, subst, sym, ap, ◌∙◌, arith}
use Rattle.btr_pool.specs.Slots.{bytes_at}
use Rattle.btr_rack.proofs.Reading.{reads_more}
use Rattle.btr_read.specs.Want.{passes}
use Rattle.btr_read.specs.Attempt.{FitsOutcome}
use Rattle.btr_read.specs.Candidates.{Target, size_of, candidates, value_of}
use Rattle.btr_read.specs.Gathering.{AreSyndromes}
use Rattle.btr_read.proofs.Parts.{stands_in_row}
use Rattle.btr_read.proofs.ReadsOn.{same_held, same_sure, open_still}
use Rattle.btr_read.proofs.Rows.{of_row}
use Rattle.btr_read.proofs.Several.{writes_more}
use Rattle.btr_read.proofs.Trials.{telling, tried_unfailed, tried_missed, differs_alone, reading_stands, all_ended, one_passes}
use Rattle.btr_read.proofs.syndromes.try_syndromes.Goals as goal

pub try_by_syndromes-requires-clause-open : goal.try_by_syndromes-requires-clause-open
try_by_syndromes-requires-clause-open g c = open_still c.args.search.now.devices c.loop-k.invariant.reads c.requires.open

pub returns-then-passes-clause-trial : goal.returns-then-passes-clause-trial
returns-then-passes-clause-trial g c = λ before is h.
    let t : Target = c.args.search.now in
    let now = g.R.Rack.seen c.loop-k.rack in
    let after = g.R.Rack.seen c.try_by_syndromes.new.rack in
    let cand = c.candidate-candidate.result in
    let e = c.in-Ok.ensures in
    let slot = bytes_at c.try_by_syndromes.new.pool c.args.slots.now.sought.now in
    let bytes : List ℕ = take (size_of t) slot in
    let lt : c.loop-k.k < length (candidates t) = omega (arith, c.loop-k-test.true, c.candidate_count-k-end.ensures) in
    let standing = stands_in_row t cand c.requires.stands (c.candidate-candidate.ensures.behind c.requires.order c.requires.profile
    (omega (arith, c.loop-k.auto.k))) in
    subst (FitsOutcome t before after slot) (sym c.passed_after.ensures)
    (one_passes t before now after c.args.failed c.loop-k.k cand slot is.fresh (c.loop-k.invariant.tried before is h)
    c.candidate-candidate.ensures.value lt e.account standing (e.value.0 ∙ c.if-passes.true)
    (λ images im. telling now.held (λ images. value_of images t cand ≡ bytes) e.value.1 images (same_held c.loop-k.invariant.reads ∙ is.held ∙ im)))

pub returns-in-Err-clause-trial : goal.returns-in-Err-clause-trial
returns-in-Err-clause-trial g c = λ before is h.
    let t : Target = c.args.search.now in
    let now = g.R.Rack.seen c.loop-k.rack in
    let after = g.R.Rack.seen c.try_by_syndromes.new.rack in
    let e = c.in-Err.ensures.account in
    tried_missed t before now after c.args.failed c.loop-k.k c.in-Err.unread.slot e.0 (c.loop-k.invariant.tried before is h)
    (omega (arith, c.loop-k-test.true, c.candidate_count-k-end.type_inv)) (same_sure c.loop-k.invariant.reads ∙ is.sure)
    (of_row t c.in-Err.unread.part e.0 c.requires.order c.requires.profile c.requires.stands e.4 e.3) e.1 e.2

pub loop-k-preserved : goal.loop-k-preserved
loop-k-preserved g c =
    let t : Target = c.args.search.now in
    let n : ℕ = size_of t in
    let now = g.R.Rack.seen c.loop-k.rack in
    let after = g.R.Rack.seen c.try_by_syndromes.new.rack in
    let new = c.try_by_syndromes.new.pool in
    let cand = c.candidate-candidate.result in
    let inv = c.loop-k.invariant in
    let e = c.in-Ok.ensures in
    let bytes : List ℕ = take n (bytes_at new c.args.slots.now.sought.now) in
    let lt : c.loop-k.k < length (candidates t) = omega (arith, c.loop-k-test.true, c.candidate_count-k-end.ensures) in
    let standing = stands_in_row t cand c.requires.stands (c.candidate-candidate.ensures.behind c.requires.order c.requires.profile
    (omega (arith, c.loop-k.auto.k))) in
    record {
      reads = reads_more inv.reads e.reads;
      writes = writes_more c.args.pool.now c.loop-k.pool new _ inv.writes e.pool;
      syndromes = subst (λ held. IfSome held (λ images. AreSyndromes images t (take n (bytes_at new c.args.slots.now.p.now))
          (take n (bytes_at new c.args.slots.now.q.now)))) (sym (same_held e.reads)) e.syndromes;
      tried = λ before is h. tried_unfailed t before now after c.args.failed c.loop-k.k cand (inv.tried before is h) c.candidate-candidate.ensures.value
          lt e.account (λ images im.
          let value : value_of images t cand ≡ bytes =
          telling now.held (λ images. value_of images t cand ≡ bytes) e.value.1 images (same_held inv.reads ∙ is.held ∙ im) in
          let fails : passes t.setting t.want (value_of images t cand) ≡ false = ap (passes t.setting t.want) value ∙ e.value.0 ∙ c.if-passes.false in
          differs_alone images t cand (value_of images t cand) (reading_stands images t cand standing) fails);
    }

pub returns-clause-trial : goal.returns-clause-trial
returns-clause-trial g c = λ before is h.
    let t : Target = c.args.search.now in
    let now = g.R.Rack.seen c.loop-k.rack in
    let slot = bytes_at c.loop-k.pool c.args.slots.now.sought.now in
    let le : length (candidates t) ≤ c.loop-k.k = omega (arith, c.loop-k-test.false, c.candidate_count-k-end.ensures) in
    subst (FitsOutcome t before now slot) (sym c.ended_after.ensures)
    (all_ended t before now c.args.failed c.loop-k.k slot is.fresh le (c.loop-k.invariant.tried before is h))
