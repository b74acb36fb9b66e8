-- Programs that go on behind faults and come to a value, or to the fault that ends the whole; and what they come to
-- where a want may come to any of several things.
use Rattle.std.specs.Prelude.{◌≡◌, ℕ, List, [], ◌∷◌, Option, Result, Ok, Err}
use Rattle.btr_prog.specs.Prog.{BlockMap, Prog, Mark, Wants, Does, Run, run}
use Rattle.btr_prog.specs.Answers.{Halt, Follows}
use Rattle.btr_prog.specs.Trying.{Trying, Done, Try, Act, tried, try_then, gathered}

module _ {W F S : Type 0} where
  -- on by a value; a fault ends the whole
  abbrev pub on_value : {A C : Type 0} → (A → Trying W F S (Result C F)) → Result A F → Trying W F S (Result C F)
  on_value k (Ok a) = k a
  on_value k (Err f) = Done (Err f)

  -- one, and then another by its value
  abbrev pub value_then : {A C : Type 0} → Trying W F S (Result A F) → (A → Trying W F S (Result C F)) → Trying W F S (Result C F)
  value_then p k = try_then p (on_value k)

  -- how a program ends, none of whose steps is done
  abbrev pub ending_of : {T A : Type 0} → Prog W F T A → Trying W F S (Result A F)
  ending_of p = try_then (gathered p) (λ o. Done o.ending)

  -- each step of a program that tries its wants is treated wholly before its next want is
  -- tried; the state goes from one to the next
  abbrev pub treat_each : {T St : Type 0} → (St → T → Trying W F S (Result St F)) → St → Trying W F T (Unit {0}) → Trying W F S (Result St F)
  treat_each treat state (Done u) = Done (Ok state)
  treat_each treat state (Try w k) = Try w (λ fate. treat_each treat state (k fate))
  treat_each treat state (Act t p) = value_then (treat state t) (λ after. treat_each treat after p)

  -- these are marks of the program, and its value, where each want comes to what one of the
  -- maps says of it, each time perhaps another
  abbrev pub ComesTo : {I X : Type 0} → (I → BlockMap W F) → Trying W F S X → List (Mark W S) → X → Type 0
  ComesTo Bs (Done a) ms x = (ms ≡ []) × (x ≡ a)
  ComesTo {I} Bs (Try w k) ms x = (i : I) × (ns : List (Mark W S)) × (ms ≡ Wants w ∷ ns) × ComesTo Bs (k (Bs i w)) ns x
  ComesTo Bs (Act s p) ms x = (ns : List (Mark W S)) × (ms ≡ Does s ∷ ns) × ComesTo Bs p ns x

  -- r is a run of the program, which ends with its value or its fault
  abbrev pub TriesTo : {I A : Type 0} → (I → BlockMap W F) → Trying W F S (Result A F) → Run W F S A → Type 0
  TriesTo Bs p r = ComesTo Bs p r.marks r.ending

  -- what was done, and the answer, are those of some run
  abbrev pub Tries : {I A U : Type 0} → (U → W → Type 0) → (S → ℕ → Option S) → (I → BlockMap W F) → Trying W F S (Result A F) → List S → Result A (Halt F U)
      → Type 0
  Tries Is part Bs p done ans = (r : Run W F S _) × TriesTo Bs p r × Follows Is part [] r done ans

-- the value or the fault that a program which tries its wants comes to; no fault ends its run
abbrev pub came_of : {F A : Type 0} → Result (Result A F) F → Result A F
came_of (Ok x) = x
came_of (Err f) = Err f

-- its one run under a block map
abbrev pub tried_run : {W F S A : Type 0} → BlockMap W F → Trying W F S (Result A F) → Run W F S A
tried_run B p = run (tried B p).marks (came_of (tried B p).ending)
