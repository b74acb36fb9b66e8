-- What the runs under two block maps have to do with each other.
use Rattle.std.specs.Prelude.{◌≡◌, ℕ, List, [], ◌∷◌, ◌++◌, Result, Ok, Err}
use Rattle.btr_prog.specs.Prog.{BlockMap, Mark, Wants, Does, Run, run, wants_of}

-- P holds of each of a list
abbrev pub Each : {W : Type 0} → (W → Type 0) → List W → Type 0
Each P [] = Unit {0}
Each P (w ∷ ws) = P w × Each P ws

-- where one map has bytes, they are the other's
abbrev pub IsWithin : {F : Type 0} → Result (List ℕ) F → Result (List ℕ) F → Type 0
IsWithin (Ok bytes) there = there ≡ Ok bytes
IsWithin (Err f) there = Unit {0}

-- there are bytes
abbrev pub IsWhole : {F : Type 0} → Result (List ℕ) F → Type 0
IsWhole (Ok bytes) = Unit {0}
IsWhole (Err f) = ⊥

-- there are bytes, or a value; or the fault is one of some
abbrev pub EndsWell : {F A : Type 0} → (F → Type 0) → Result A F → Type 0
EndsWell Well (Ok a) = Unit {0}
EndsWell Well (Err f) = Well f

-- what follows a want, where there are bytes
abbrev pub marks_if : {W S F : Type 0} → Result (List ℕ) F → List (Mark W S) → List (Mark W S)
marks_if (Ok bytes) ms = ms
marks_if (Err f) ms = []

-- how a run ends that goes on where a want has bytes: as what follows does, or with the want's fault
abbrev pub ending_if : {F A : Type 0} → Result (List ℕ) F → Result A F → Result A F
ending_if (Ok bytes) e = e
ending_if (Err f) e = Err f

-- the marks up to the first want that B does not give
abbrev pub up_to : {W S F : Type 0} → BlockMap W F → List (Mark W S) → List (Mark W S)
up_to B [] = []
up_to B (Wants w ∷ ms) = Wants w ∷ marks_if (B w) (up_to B ms)
up_to B (Does s ∷ ms) = Does s ∷ up_to B ms

-- the fault of that want, else the ending
abbrev pub first_fault : {W S F A : Type 0} → BlockMap W F → List (Mark W S) → Result A F → Result A F
first_fault B [] e = e
first_fault B (Wants w ∷ ms) e = ending_if (B w) (first_fault B ms e)
first_fault B (Does s ∷ ms) e = first_fault B ms e

-- a run, cut at the first want that B does not give
abbrev pub cut : {W F S A : Type 0} → BlockMap W F → Run W F S A → Run W F S A
cut B r = run (up_to B r.marks) (first_fault B r.marks r.ending)

-- `short` is the run `long` up to the first want that B does not give, and ends with that want's fault
pub record Loses {W F S A C : Type 0} (B : BlockMap W F) (long : Run W F S A) (short : Run W F S C) : Type 0 where
  pub want : W
  pub fault : F
  pub before : List (Mark W S)
  pub behind : List (Mark W S)
  pub place : long.marks ≡ before ++ (Wants want ∷ behind)
  pub whole : Each (λ w. IsWhole (B w)) (wants_of before)
  pub lost : B want ≡ Err fault
  pub marks : short.marks ≡ before ++ (Wants want ∷ [])
  pub ending : short.ending ≡ Err fault
