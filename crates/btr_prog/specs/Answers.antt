-- What a call that runs a program answers, and what it has done by then, also where a read, a sink or memory failed.
use Rattle.std.specs.Prelude.{◌≡◌, ◌⊎◌, ℕ, List, [], ◌∷◌, ◌++◌, Option, Some, None, Result, Ok, Err}
use Rattle.std.specs.Option.{option_to_list}
use Rattle.btr_prog.specs.Prog.{Mark, Wants, Does, Run, steps_of, wants_of}

-- what ends a call without a value: its program's fault, a block that could not be read, of which the call tells
-- something, or something else that broke it off at any place, as a sink that failed
pub data Halt (F U : Type 0) : Type 0 where
  Fault : F → Halt F U
  Unread : U → Halt F U
  Broke : Halt F U

-- Some want is the one that could not be read. `Is u w` says when w is the one of which u is told: that it has the
-- address, which reads of it failed, and all else that is the cause.
abbrev pub Names : {W U : Type 0} → (U → W → Type 0) → U → List W → Type 0
Names Is u [] = ⊥
Names Is u (w ∷ ws) = Is u w ⊎ Names Is u ws

-- What a call that is broken off before some marks may leave: nothing, or a part of the step that comes first.
-- `part` says what stands of a step that is broken off after a number of bytes, if it can be.
abbrev pub Leaves : {W S : Type 0} → (S → ℕ → Option S) → Option S → List (Mark W S) → Type 0
Leaves part None ms = Unit {0}
Leaves part (Some t) [] = ⊥
Leaves part (Some t) (Wants w ∷ ms) = ⊥
Leaves part (Some t) (Does s ∷ ms) = (n : ℕ) × (part s n ≡ Some t)

-- no step is done in part
abbrev pub no_part : {S : Type 0} → S → ℕ → Option S
no_part s n = None

-- A run is broken off at some place. Done are exactly the steps before it, and perhaps a part of the step there;
-- P holds of the wants before it.
pub record Breaks {W F S A : Type 0} (part : S → ℕ → Option S) (P : List W → Type 0) (r : Run W F S A) (done : List S) : Type 0 where
  pub before : List (Mark W S)
  pub behind : List (Mark W S)
  pub left : Option S
  pub place : r.marks ≡ before ++ behind
  pub steps : done ≡ steps_of before ++ option_to_list left
  pub leaves : Leaves part left behind
  pub holds : P (wants_of before)

module _ {W F S A U : Type 0} where
  -- What was done, and the answer, are those of a run. Where it ends of itself all its steps were done; where a block
  -- could not be read, exactly those before some place behind a want of that block, of those before the run (`seen`) or
  -- its own; else those before any place, and perhaps a part of the step there.
  abbrev pub Follows : (U → W → Type 0) → (S → ℕ → Option S) → List W → Run W F S A → List S → Result A (Halt F U) → Type 0
  Follows Is part seen r done (Ok a) = (done ≡ steps_of r.marks) × (r.ending ≡ Ok a)
  Follows Is part seen r done (Err (Fault f)) = (done ≡ steps_of r.marks) × (r.ending ≡ Err f)
  Follows Is part seen r done (Err (Unread u)) = Breaks no_part (λ ws. Names Is u (seen ++ ws)) r done
  Follows Is part seen r done (Err Broke) = Breaks part (λ ws. Unit {0}) r done
