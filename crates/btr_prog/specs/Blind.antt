-- Where a want may come to several things: what a listing under maps that lack blocks
-- has to do with one under maps that have them.
use Rattle.std.specs.Prelude.{◌≡◌, ◌⊎◌, ℕ, Bool, IsTrue, List, [], ◌∷◌, ◌++◌, Option, Result, Err}
use Rattle.btr_prog.specs.Prog.{BlockMap, Prog, Return, Stop, Need, Emit, Mark, Wants, Run, exec, needs, steps_of, wants_of}
use Rattle.btr_prog.specs.Maps.{Each, IsWithin, IsWhole}
use Rattle.btr_prog.specs.Answers.{Halt, Fault}
use Rattle.btr_prog.specs.Goes.{GoesTo, Goes}

module _ {W F S A : Type 0} where
  -- two programs want the same and end alike, whatever the blocks
  abbrev pub SameWants : Prog W F S A → Prog W F S A → Type 0
  SameWants p q = (B : BlockMap W F) → (needs B p ≡ needs B q) × ((exec B p).ending ≡ (exec B q).ending)

  -- a program only shows the bytes of the wants that pass a test, and asks nothing of them
  abbrev pub IsBlind : (W → Bool) → Prog W F S A → Type 0
  IsBlind plain (Return a) = Unit {0}
  IsBlind plain (Stop f) = Unit {0}
  IsBlind plain (Need w k) = ((bytes : List ℕ) → IsBlind plain (k bytes)) × (IsTrue (plain w) → (bytes others : List ℕ) → SameWants (k bytes) (k others))
  IsBlind plain (Emit s p) = IsBlind plain p

-- two fates are the same, or may differ in their bytes where the test passes
abbrev pub IsAlike : {F : Type 0} → Bool → Result (List ℕ) F → Result (List ℕ) F → Type 0
IsAlike plain x y = (x ≡ y) ⊎ (IsTrue plain × IsWhole x × IsWhole y)

-- `short` is the run `long` up to some want, which one of the maps does not give, and ends with that want's fault
pub record Drops {W F S I A C : Type 0} (Bs : I → BlockMap W F) (long : Run W F S A) (short : Run W F S C) : Type 0 where
  pub want : W
  pub fault : F
  pub before : List (Mark W S)
  pub behind : List (Mark W S)
  pub choice : I
  pub place : long.marks ≡ before ++ (Wants want ∷ behind)
  pub lost : Bs choice want ≡ Err fault
  pub marks : short.marks ≡ before ++ (Wants want ∷ [])
  pub ending : short.ending ≡ Err fault

module _ (W F S A J : Type 0) where
  -- all runs of a program that is blind to wants that may differ want the same and end alike
  abbrev pub BlindLaw : Type 0
  BlindLaw =
      (plain : W → Bool) (Cs : J → BlockMap W F) (C : BlockMap W F) (p : Prog W F S A) (q : Run W F S A)
      → IsBlind plain p
      → Each (λ w. (j : J) → IsAlike (plain w) (Cs j w) (C w)) (needs C p)
      → GoesTo Cs p q
      → (wants_of q.marks ≡ needs C p) × (q.ending ≡ (exec C p).ending)

module _ (W F S A J I U : Type 0) (Is : U → W → Type 0) where
  -- Where the program is blind to what may differ among Cs, all its runs by Cs want what C's run wants. Let each map of
  -- Bs have, of each of these wants, the bytes of some map of Cs or none. Then an answer by Bs is one by Cs, or the
  -- call stopped at a want of such a run that one of Bs lacks, with its fault and exactly the steps before it.
  abbrev pub GoesHeldLaw : Type 0
  GoesHeldLaw =
      J
      → (part : S → ℕ → Option S) (seen : List W) (plain : W → Bool) (Bs : I → BlockMap W F)
      (Cs : J → BlockMap W F) (C : BlockMap W F) (p : Prog W F S A) (done : List S) (ans : Result A (Halt F U))
      → IsBlind plain p
      → Each (λ w. (j : J) → IsAlike (plain w) (Cs j w) (C w)) (needs C p)
      → Each (λ w. (i : I) → (j : J) × IsWithin (Bs i w) (Cs j w)) (needs C p)
      → Goes Is part seen Bs p done ans
      → Goes Is part seen Cs p done ans ⊎ ((q : Run W F S A) × (r : Run W F S A) × GoesTo Cs p q × (m : Drops Bs q r) × (done ≡ steps_of m.before)
      × (ans ≡ Err (Fault m.fault)))
