-- The steps of a run and how it ends, without its wants.
use Rattle.std.specs.Prelude.{◌≡◌, List, [], ◌∷◌, ◌++◌, Result, Ok, Err}
use Rattle.btr_prog.specs.Prog.{BlockMap, Prog, Run, exec, steps_of}
use Rattle.btr_prog.specs.Thread.{thread}

-- the steps of a run, and how it ends
pub record RunOutcome (F S A : Type 0) : Type 0 where
  pub steps : List S
  pub ending : Result A F

module _ {F S A : Type 0} where
  -- an outcome of these steps and this ending
  abbrev pub outcome : List S → Result A F → RunOutcome F S A
  outcome ss e = record { steps = ss; ending = e }

  -- the outcome of a run
  abbrev pub outcome_of : {W : Type 0} → Run W F S A → RunOutcome F S A
  outcome_of r = outcome (steps_of r.marks) r.ending

module _ {F S : Type 0} where
  -- some steps, and then another outcome by the value they ended with, or none after a fault
  abbrev pub after_steps : {A C : Type 0} → List S → Result A F → (A → RunOutcome F S C) → RunOutcome F S C
  after_steps ss (Ok a) k = outcome (ss ++ (k a).steps) (k a).ending
  after_steps ss (Err f) k = outcome ss (Err f)

  -- one outcome, and then another by its value
  abbrev pub and_outcome : {A C : Type 0} → RunOutcome F S A → (A → RunOutcome F S C) → RunOutcome F S C
  and_outcome o k = after_steps o.steps o.ending k

module _ {F : Type 0} where
  -- the outcome that goes on from a step that was treated: from the new state, or only the end with its result
  abbrev pub go_on_outcome : {T St R : Type 0} → (St → RunOutcome F T R) → Result St R → RunOutcome F T R
  go_on_outcome k (Ok st) = k st
  go_on_outcome k (Err r) = outcome [] (Ok r)

  -- how a treated outcome ends: with the result of the last state and the value, or with the fault
  abbrev pub end_outcome : {T A St R : Type 0} → (St → A → R) → St → Result A F → RunOutcome F T R
  end_outcome done st (Ok a) = outcome [] (Ok (done st a))
  end_outcome done st (Err f) = outcome [] (Err f)

  -- treating a list of items that ends in some way
  abbrev pub thread_outcome : {S A T St R : Type 0} → (St → S → RunOutcome F T (Result St R)) → (St → A → R) → St → List S → Result A F → RunOutcome F T R
  thread_outcome body done st [] e = end_outcome done st e
  thread_outcome body done st (s ∷ ss) e = and_outcome (body st s) (go_on_outcome (λ st'. thread_outcome body done st' ss e))

-- what comes of treating a program's steps hangs on those steps and how they end, and not on the wants between them
abbrev pub ThreadOutcome : Type 0 → Type 0 → Type 0 → Type 0 → Type 0 → Type 0 → Type 0 → Type 0
ThreadOutcome W F S A T St R =
    (B : BlockMap W F) (body : St → S → Prog W F T (Result St R)) (done : St → A → R) (st : St) (p : Prog W F S A)
    → outcome_of (exec B (thread body done st p)) ≡ thread_outcome (λ st s. outcome_of (exec B (body st s))) done st (steps_of (exec B p).marks)
    (exec B p).ending
