-- Programs that go on behind faults: a want is tried, and its fault is handed on. No fault ends their runs.
use Rattle.std.specs.Prelude.{ℕ, List, [], ◌∷◌, Result, Ok, Err}
use Rattle.btr_prog.specs.Prog.{BlockMap, Prog, Return, Stop, Need, Emit, Wants, Does, Run, run, first}
use Rattle.btr_prog.specs.Outcomes.{RunOutcome, outcome}

-- A trying program is done with a value, tries a want and goes on by its bytes
-- or its fault, or does a step and goes on.
pub data Trying (W F S A : Type 0) : Type 0 where
  Done : A → Trying W F S A
  Try : W → (Result (List ℕ) F → Trying W F S A) → Trying W F S A
  Act : S → Trying W F S A → Trying W F S A

module _ {W F S : Type 0} where
  -- its run under a block map
  abbrev pub tried : {A : Type 0} → BlockMap W F → Trying W F S A → Run W F S A
  tried B (Done a) = run [] (Ok a)
  tried B (Try w k) = first (Wants w) (tried B (k (B w)))
  tried B (Act s p) = first (Does s) (tried B p)

  -- a trying program, and then another by its value
  abbrev pub try_then : {A C : Type 0} → Trying W F S A → (A → Trying W F S C) → Trying W F S C
  try_then (Done a) k = k a
  try_then (Try w g) k = Try w (λ fate. try_then (g fate) k)
  try_then (Act s p) k = Act s (try_then p k)

  -- a step for each, and then the rest
  abbrev pub act_all : {A : Type 0} → List S → Trying W F S A → Trying W F S A
  act_all [] rest = rest
  act_all (s ∷ ss) rest = Act s (act_all ss rest)

  -- on by a block's bytes, or done by the fault that stands for them
  abbrev pub by_fate : {A : Type 0} → Result (List ℕ) F → (List ℕ → Trying W F S A) → (F → A) → Trying W F S A
  by_fate (Ok bytes) k ended = k bytes
  by_fate (Err f) k ended = Done (ended f)

  -- a program as a part of a trying one: its steps are done, and how it ends is handed on
  abbrev pub attempt : {A : Type 0} → Prog W F S A → Trying W F S (Result A F)
  attempt (Return a) = Done (Ok a)
  attempt (Stop f) = Done (Err f)
  attempt (Need w k) = Try w (λ fate. by_fate fate (λ bytes. attempt (k bytes)) (λ f. Err f))
  attempt (Emit s p) = Act s (attempt p)

  -- a program as a part of a trying one whose steps are not done but gathered: steps and ending are handed on
  abbrev pub gathered : {T A : Type 0} → Prog W F T A → Trying W F S (RunOutcome F T A)
  gathered (Return a) = Done (outcome [] (Ok a))
  gathered (Stop f) = Done (outcome [] (Err f))
  gathered (Need w k) = Try w (λ fate. by_fate fate (λ bytes. gathered (k bytes)) (λ f. outcome [] (Err f)))
  gathered (Emit t p) = try_then (gathered p) (λ o. Done (outcome (t ∷ o.steps) o.ending))
