-- Treating the steps of a program, without its wants.
use Rattle.std.proofs.Common.{◌≡◌, List, [], ◌∷◌, ◌++◌, Result, Ok, Err, refl, ap, ◌∙◌}
use Rattle.btr_prog.specs.Prog.{BlockMap, Prog, Mark, Wants, Does, Run, exec, after, steps_of}
use Rattle.btr_prog.specs.Thread.{go_on_run, thread, thread_run}
use Rattle.btr_prog.specs.Outcomes.{RunOutcome, outcome, outcome_of, after_steps, go_on_outcome, thread_outcome}
use Rattle.btr_prog.proofs.Runs.{steps_of-append}
use Rattle.btr_prog.proofs.Threads.{exec-thread}

module _ {W F : Type 0} where
  -- the steps and ending of a run and what follows it hang on those of what follows
  outcome_of-after : {S A C : Type 0} (ms : List (Mark W S)) (e : Result A F) (k : A → Run W F S C) (h : A → RunOutcome F S C)
      → ((a : A) → outcome_of (k a) ≡ h a) → outcome_of (after ms e k) ≡ after_steps (steps_of ms) e h
  outcome_of-after ms (Ok a) k h e = ap (λ x. outcome x (k a).ending) (steps_of-append ms (k a).marks)
      ∙ ap (λ (o : RunOutcome F _ _). outcome (steps_of ms ++ o.steps) o.ending) (e a)
  outcome_of-after ms (Err f) k h e = refl

  -- the steps and ending of going on by a state, or of the early end
  go_outcome : {T St R : Type 0} (k : St → Run W F T R) (h : St → RunOutcome F T R) → ((st : St) → outcome_of (k st) ≡ h st) → (x : Result St R)
      → outcome_of (go_on_run k x) ≡ go_on_outcome h x
  go_outcome k h e (Ok st) = e st
  go_outcome k h e (Err r) = refl

  -- what treating a run's steps comes to hangs on the steps and the ending, and not on the wants between
  pub outcome_of-thread_run : {S A T St R : Type 0} (body : St → S → Run W F T (Result St R)) (done : St → A → R) (st : St) (ms : List (Mark W S))
      (e : Result A F) → outcome_of (thread_run body done st ms e) ≡ thread_outcome (λ st s. outcome_of (body st s)) done st (steps_of ms) e
  outcome_of-thread_run body done st [] (Ok a) = refl
  outcome_of-thread_run body done st [] (Err f) = refl
  outcome_of-thread_run body done st (Wants w ∷ ms) e = outcome_of-thread_run body done st ms e
  outcome_of-thread_run body done st (Does s ∷ ms) e =
      let r = body st s in
      outcome_of-after r.marks r.ending (go_on_run (λ st'. thread_run body done st' ms e))
      (go_on_outcome (λ st'. thread_outcome (λ st s. outcome_of (body st s)) done st' (steps_of ms) e))
      (go_outcome (λ st'. thread_run body done st' ms e) (λ st'. thread_outcome (λ st s. outcome_of (body st s)) done st' (steps_of ms) e)
      (λ st'. outcome_of-thread_run body done st' ms e))

  -- what treating a program's steps comes to hangs on the steps and how they end, and not on the wants between
  pub outcome_of-thread : {S A T St R : Type 0} (B : BlockMap W F) (body : St → S → Prog W F T (Result St R)) (done : St → A → R) (st : St)
      (p : Prog W F S A) → outcome_of (exec B (thread body done st p))
      ≡ thread_outcome (λ st s. outcome_of (exec B (body st s))) done st (steps_of (exec B p).marks) (exec B p).ending
  outcome_of-thread B body done st p = ap outcome_of (exec-thread B body done st p)
      ∙ outcome_of-thread_run (λ st s. exec B (body st s)) done st (exec B p).marks (exec B p).ending
