-- A program whose steps are treated one after another: each wholly, before the next block is wanted.
use Rattle.std.specs.Prelude.{List, [], ◌∷◌, Result, Ok, Err}
use Rattle.btr_prog.specs.Prog.{Prog, Return, Stop, Need, Emit, Mark, Wants, Does, Run, run, first, bind, and_then}

module _ {W F : Type 0} where
  -- on from a state, or the early end with a result
  abbrev pub go_on : {T St R : Type 0} → (St → Prog W F T R) → Result St R → Prog W F T R
  go_on k (Ok st) = k st
  go_on k (Err r) = Return r

  -- Each step of a program is replaced by a program, its body, which gives the next state or ends the whole early.
  -- `done` makes the result of the last state and the program's value.
  abbrev pub thread : {S A T St R : Type 0} → (St → S → Prog W F T (Result St R)) → (St → A → R) → St → Prog W F S A → Prog W F T R
  thread body done st (Return a) = Return (done st a)
  thread body done st (Stop f) = Stop f
  thread body done st (Need w k) = Need w (λ bytes. thread body done st (k bytes))
  thread body done st (Emit s p) = bind (body st s) (go_on (λ st'. thread body done st' p))

  -- the same of runs
  abbrev pub go_on_run : {T St R : Type 0} → (St → Run W F T R) → Result St R → Run W F T R
  go_on_run k (Ok st) = k st
  go_on_run k (Err r) = run [] (Ok r)

  -- how a treated run ends: with the result of the last state and the value, or with the fault
  abbrev pub end_of : {T A St R : Type 0} → (St → A → R) → St → Result A F → Run W F T R
  end_of done st (Ok a) = run [] (Ok (done st a))
  end_of done st (Err f) = run [] (Err f)

  -- the run that treats the steps of a run one after another, with its wants between them
  abbrev pub thread_run : {S A T St R : Type 0} → (St → S → Run W F T (Result St R)) → (St → A → R) → St → List (Mark W S) → Result A F → Run W F T R
  thread_run body done st [] e = end_of done st e
  thread_run body done st (Wants w ∷ ms) e = first (Wants w) (thread_run body done st ms e)
  thread_run body done st (Does s ∷ ms) e = and_then (body st s) (go_on_run (λ st'. thread_run body done st' ms e))
