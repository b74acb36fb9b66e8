-- The laws of programs that go on behind faults. What is answered of their runs follows the laws of answers.
use Rattle.std.specs.Prelude.{◌≡◌, ℕ, List, [], ◌∷◌, ◌++◌, Option, IsOk, Result, Ok, Err}
use Rattle.btr_prog.specs.Prog.{BlockMap, Prog, run, exec, and_then, needs, wants_of, want_marks}
use Rattle.btr_prog.specs.Outcomes.{RunOutcome, outcome, outcome_of}
use Rattle.btr_prog.specs.Maps.{Each}
use Rattle.btr_prog.specs.Answers.{Halt, Fault, Unread, Broke, Follows}
use Rattle.btr_prog.specs.Trying.{Trying, Try, tried, try_then, attempt, gathered}

-- an answer of a program, where its own fault is handed on
abbrev pub attempted : {F A U : Type 0} → Result A (Halt F U) → Result (Result A F) (Halt F U)
attempted (Ok a) = Ok (Ok a)
attempted (Err (Fault f)) = Ok (Err f)
attempted (Err (Unread u)) = Err (Unread u)
attempted (Err Broke) = Err Broke

-- an answer of a program, where its own fault and the steps that were gathered are handed on
abbrev pub gathered_by : {F S A U : Type 0} → List S → Result A (Halt F U) → Result (RunOutcome F S A) (Halt F U)
gathered_by done (Ok a) = Ok (outcome done (Ok a))
gathered_by done (Err (Fault f)) = Ok (outcome done (Err f))
gathered_by done (Err (Unread u)) = Err (Unread u)
gathered_by done (Err Broke) = Err Broke

module _ (W F S A : Type 0) where
  -- the run of one after another is one run after another
  abbrev pub TriedThen : Type 0 → Type 0
  TriedThen C =
      (B : BlockMap W F) (p : Trying W F S A) (k : A → Trying W F S C)
      → tried B (try_then p k) ≡ and_then (tried B p) (λ a. tried B (k a))

  -- no fault ends a run
  abbrev pub TriedEnds : Type 0
  TriedEnds = (B : BlockMap W F) (p : Trying W F S A) → IsOk (tried B p).ending

  -- a run hangs on the fates of its own wants alone
  abbrev pub OnlyTried : Type 0
  OnlyTried =
      (B C : BlockMap W F) (p : Trying W F S A)
      → Each (λ w. B w ≡ C w) (wants_of (tried B p).marks)
      → tried B p ≡ tried C p

  -- a program that is attempted has its own run, and how that ends is the value
  abbrev pub AttemptRun : Type 0
  AttemptRun = (B : BlockMap W F) (p : Prog W F S A) → tried B (attempt p) ≡ run (exec B p).marks (Ok (exec B p).ending)

  -- of a program whose steps are gathered only the wants are there, and its steps and how it ends are the value
  abbrev pub GatheredRun : Type 0 → Type 0
  GatheredRun T = (B : BlockMap W F) (p : Prog W F T A) → tried {S = S} B (gathered p) ≡ run (want_marks (needs B p)) (Ok (outcome_of (exec B p)))

module _ (W F S A U : Type 0) (Is : U → W → Type 0) where
  -- a want that came to bytes or a fault, and what came then
  abbrev pub TryCame : Type 0
  TryCame =
      (part : S → ℕ → Option S) (seen : List W) (B : BlockMap W F) (w : W)
      (k : Result (List ℕ) F → Trying W F S A) (done : List S) (ans : Result A (Halt F U))
      → Follows Is part (seen ++ (w ∷ [])) (tried B (k (B w))) done ans
      → Follows Is part seen (tried B (Try w k)) done ans

  -- what is answered of a program is answered of it as a part
  abbrev pub FollowsAttempt : Type 0
  FollowsAttempt =
      (part : S → ℕ → Option S) (seen : List W) (B : BlockMap W F) (p : Prog W F S A)
      (done : List S) (ans : Result A (Halt F U))
      → Follows Is part seen (exec B p) done ans
      → Follows Is part seen (tried B (attempt p)) done (attempted ans)

  -- what is answered of a program is answered of it as a part that gathers its steps and does none
  abbrev pub FollowsGathered : Type 0 → Type 0
  FollowsGathered T =
      (part : S → ℕ → Option S) (own : T → ℕ → Option T) (seen : List W) (B : BlockMap W F) (p : Prog W F T A)
      (done : List T) (ans : Result A (Halt F U))
      → Follows Is own seen (exec B p) done ans
      → Follows Is part seen (tried {S = S} B (gathered p)) [] (gathered_by done ans)
