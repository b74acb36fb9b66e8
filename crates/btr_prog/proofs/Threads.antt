-- Treating the steps of a program.
use Rattle.std.proofs.Common.{◌≡◌, ℕ, List, Result, Ok, Err, refl, ap, ◌∙◌}
use Rattle.btr_prog.specs.Prog.{BlockMap, Prog, Return, Stop, Need, Emit, Mark, Wants, Run, first, prepend, given, exec, after}
use Rattle.btr_prog.specs.Thread.{go_on, thread, go_on_run, thread_run}
use Rattle.btr_prog.proofs.Runs.{exec-bind}

module _ {W F : Type 0} where
  -- what follows may be replaced where it is the same after each value
  pub after_same : {S A C : Type 0} (ms : List (Mark W S)) (e : Result A F) (k k' : A → Run W F S C) → ((a : A) → k a ≡ k' a) → after ms e k ≡ after ms e k'
  after_same ms (Ok a) k k' h = ap (prepend ms) (h a)
  after_same ms (Err f) k k' h = refl

  -- of one want: treating the steps of what follows it
  given_thread : {S A T St R : Type 0} (body : St → S → Run W F T (Result St R)) (done : St → A → R) (st : St) (x : Result (List ℕ) F)
      (g : List ℕ → Run W F T R) (h : List ℕ → Run W F S A) → ((bytes : List ℕ) → g bytes ≡ thread_run body done st (h bytes).marks (h bytes).ending)
      → given x g ≡ thread_run body done st (given x h).marks (given x h).ending
  given_thread body done st (Ok bytes) g h e = e bytes
  given_thread body done st (Err f) g h e = refl

  -- on by the state or to the early end: a program has the run that is said for each state
  go_same : {T St R : Type 0} (B : BlockMap W F) (g : St → Prog W F T R) (h : St → Run W F T R) → ((st : St) → exec B (g st) ≡ h st)
      → (x : Result St R) → exec B (go_on g x) ≡ go_on_run h x
  go_same B g h e (Ok st) = e st
  go_same B g h e (Err r) = refl

  -- treating a program's steps is treating those of its run
  pub exec-thread : {S A T St R : Type 0} (B : BlockMap W F) (body : St → S → Prog W F T (Result St R)) (done : St → A → R) (st : St)
      (p : Prog W F S A) → exec B (thread body done st p) ≡ thread_run (λ st s. exec B (body st s)) done st (exec B p).marks (exec B p).ending
  exec-thread B body done st (Return a) = refl
  exec-thread B body done st (Stop f) = refl
  exec-thread B body done st (Need w k) = ap (first (Wants w))
      (given_thread (λ st s. exec B (body st s)) done st (B w) (λ bytes. exec B (thread body done st (k bytes))) (λ bytes. exec B (k bytes))
      (λ bytes. exec-thread B body done st (k bytes)))
  exec-thread B body done st (Emit s p) =
      let r = exec B (body st s) in
      exec-bind B (body st s) (go_on (λ st'. thread body done st' p))
      ∙ after_same r.marks r.ending (λ x. exec B (go_on (λ st'. thread body done st' p) x))
      (go_on_run (λ st'. thread_run (λ st s. exec B (body st s)) done st' (exec B p).marks (exec B p).ending))
      (go_same B (λ st'. thread body done st' p) (λ st'. thread_run (λ st s. exec B (body st s)) done st' (exec B p).marks (exec B p).ending)
      (λ st'. exec-thread B body done st' p))
