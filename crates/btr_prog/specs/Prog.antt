-- Programs that want blocks and do steps, and the runs that they come to.
use Rattle.std.specs.Prelude.{ℕ, List, [], ◌∷◌, ◌++◌, Result, Ok, Err}

-- A program returns a value, stops with a fault, wants a block and goes on by its bytes, or does a step and goes on.
-- Its wants W, faults F, steps S and value A are types of whoever writes it.
pub data Prog (W F S A : Type 0) : Type 0 where
  Return : A → Prog W F S A
  Stop : F → Prog W F S A
  Need : W → (List ℕ → Prog W F S A) → Prog W F S A
  Emit : S → Prog W F S A → Prog W F S A

-- a block map says what becomes of each want: its bytes, or a fault
abbrev pub BlockMap : Type 0 → Type 0 → Type 0
BlockMap W F = W → Result (List ℕ) F

-- what a program meets on its way: a want, or a step
pub data Mark (W S : Type 0) : Type 0 where
  Wants : W → Mark W S
  Does : S → Mark W S

-- a run: the marks in order, and the value or the fault that ends them
pub record Run (W F S A : Type 0) : Type 0 where
  pub marks : List (Mark W S)
  pub ending : Result A F

-- the steps among some marks
abbrev pub steps_of : {W S : Type 0} → List (Mark W S) → List S
steps_of [] = []
steps_of (Wants w ∷ ms) = steps_of ms
steps_of (Does s ∷ ms) = s ∷ steps_of ms

-- the marks of some wants, with no step among them
abbrev pub want_marks : {W S : Type 0} → List W → List (Mark W S)
want_marks [] = []
want_marks (w ∷ ws) = Wants w ∷ want_marks ws

-- the wants among some marks
abbrev pub wants_of : {W S : Type 0} → List (Mark W S) → List W
wants_of [] = []
wants_of (Wants w ∷ ms) = w ∷ wants_of ms
wants_of (Does s ∷ ms) = wants_of ms

module _ {W F S : Type 0} where
  -- a run of these marks and this ending
  abbrev pub run : {A : Type 0} → List (Mark W S) → Result A F → Run W F S A
  run ms e = record { marks = ms; ending = e }

  -- a mark, and then a run
  abbrev pub first : {A : Type 0} → Mark W S → Run W F S A → Run W F S A
  first m r = run (m ∷ r.marks) r.ending

  -- some marks, and then a run
  abbrev pub prepend : {A : Type 0} → List (Mark W S) → Run W F S A → Run W F S A
  prepend ms r = run (ms ++ r.marks) r.ending

  -- the run by a block's bytes, or the fault that stands for them
  abbrev pub given : {A : Type 0} → Result (List ℕ) F → (List ℕ → Run W F S A) → Run W F S A
  given (Ok bytes) k = k bytes
  given (Err f) k = run [] (Err f)

  -- the run of a program under a block map
  abbrev pub exec : {A : Type 0} → BlockMap W F → Prog W F S A → Run W F S A
  exec B (Return a) = run [] (Ok a)
  exec B (Stop f) = run [] (Err f)
  exec B (Need w k) = first (Wants w) (given (B w) (λ bytes. exec B (k bytes)))
  exec B (Emit s p) = first (Does s) (exec B p)

  -- the wants of that run, the one that fails included
  abbrev pub needs : {A : Type 0} → BlockMap W F → Prog W F S A → List W
  needs B p = wants_of (exec B p).marks

  -- its steps
  abbrev pub steps : {A : Type 0} → BlockMap W F → Prog W F S A → List S
  steps B p = steps_of (exec B p).marks

  -- a program, and then another by its value
  abbrev pub bind : {A C : Type 0} → Prog W F S A → (A → Prog W F S C) → Prog W F S C
  bind (Return a) k = k a
  bind (Stop f) k = Stop f
  bind (Need w g) k = Need w (λ bytes. bind (g bytes) k)
  bind (Emit s p) k = Emit s (bind p k)

  -- some marks and their ending, and then another run where that is a value
  abbrev pub after : {A C : Type 0} → List (Mark W S) → Result A F → (A → Run W F S C) → Run W F S C
  after ms (Ok a) k = prepend ms (k a)
  after ms (Err f) k = run ms (Err f)

  -- a run, and then another by its value
  abbrev pub and_then : {A C : Type 0} → Run W F S A → (A → Run W F S C) → Run W F S C
  and_then r k = after r.marks r.ending k
