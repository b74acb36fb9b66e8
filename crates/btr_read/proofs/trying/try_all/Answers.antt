use Rattle.std.proofs.Common.{◌≡◌, ◌<◌, false, List, [], ◌∷◌, length, slice_get, Some, None, refl, sym, subst, arith}
use Rattle.btr_read.specs.Want.{passes}
use Rattle.btr_read.specs.Candidates.{Target, candidates, value_of}
use Rattle.btr_read.specs.Trial.{BeganAt, TriedSoFar}
use Rattle.btr_read.specs.declared.candidate.Candidate.{Candidate}
use Rattle.btr_read.proofs.ReadsOn.{open_still}
use Rattle.btr_read.proofs.Trials.{telling, began_on, tried_none, tried_unfailed, tried_failed, differs_alone, absent_alone, reading_stands, reading_absent}
use Rattle.btr_read.proofs.trying.try_all.Goals as goal
use Rattle.btr_read.proofs.trying.try_all.Goals.{in-Differs, in-Absent, in-Failed}

first_there : (cs : List Candidate) (c : Candidate) → slice_get cs 0 ≡ Some c → 0 < length cs
first_there [] c e = cc
first_there (d ∷ cs) c e = omega arith

pub returns-then-not-is_by_syndromes-clause-outcome : goal.returns-then-not-is_by_syndromes-clause-outcome
returns-then-not-is_by_syndromes-clause-outcome g c =
    let old = g.R.Rack.seen c.args.rack.now in
    c.try_from.ensures.outcome old (record { fresh = c.requires.fresh; held = refl; sure = refl }) (tried_none c.args.search.now old c.requires.missed)

pub try_behind-requires-clause-open : goal.try_behind-requires-clause-open
try_behind-requires-clause-open g c = open_still c.args.search.now.devices c.try_candidate.ensures.reads c.requires.open

pub returns-clause-outcome : goal.returns-clause-outcome
returns-clause-outcome g c =
    let t : Target = c.args.search.now in
    let old = g.R.Rack.seen c.args.rack.now in
    let after = g.R.Rack.seen c.try_candidate.new.rack in
    let cand = c.candidate.result in
    let value = c.candidate.ensures.value in
    let lt : 0 < length (candidates t) = first_there (candidates t) cand value in
    let began : BeganAt old old = record { fresh = c.requires.fresh; held = refl; sure = refl } in
    let none = tried_none t old c.requires.missed in
    let tried : TriedSoFar t old after c.match-try_candidate.failed 1 =
    elim c.match-try_candidate.branch [
      | in-Differs w ↦
          let e = w.in-Differs.ensures in
          subst (λ f. TriedSoFar t old after f 1) (sym w.failed-is)
          (tried_unfailed t old old after None 0 cand none value lt e.account
          (λ images im. differs_alone images t cand (value_of images t cand) (reading_stands images t cand e.attempt.0)
          (telling old.held (λ images. passes t.setting t.want (value_of images t cand) ≡ false) e.attempt.1 images im)))
      | in-Absent w ↦
          let e = w.in-Absent.ensures in
          subst (λ f. TriedSoFar t old after f 1) (sym w.failed-is)
          (tried_unfailed t old old after None 0 cand none value lt e.account
          (λ images im. absent_alone images t cand (reading_absent images t cand e.attempt)))
      | in-Failed w ↦
          let e = w.in-Failed.ensures in
          subst (λ f. TriedSoFar t old after f 1) (sym w.failed-is)
          (tried_failed t old old after None 0 w.in-Failed.slot cand none value lt (omega arith) refl e.attempt e.account)
    ]
    in
    c.try_behind.ensures.outcome old (began_on c.try_candidate.ensures.reads began) tried
