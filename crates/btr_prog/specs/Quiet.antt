-- A program without steps, such as the lookup of one item, as a part of a program with steps.
use Rattle.std.specs.Prelude.{◌≡◌, ℕ, List, [], ◌∷◌, Option, Result}
use Rattle.btr_prog.specs.Prog.{BlockMap, Prog, Return, Stop, Need, Emit, Mark, Wants, Does, Run, run, exec}
use Rattle.btr_prog.specs.Answers.{Halt, Follows, no_part}
use Rattle.btr_prog.specs.Goes.{Goes}

-- the marks of a program without steps, as marks that could have some
abbrev pub quiet_marks : {W S : Type 0} → List (Mark W ⊥) → List (Mark W S)
quiet_marks [] = []
quiet_marks (Wants w ∷ ms) = Wants w ∷ quiet_marks ms
quiet_marks (Does s ∷ ms) = absurd s

module _ {W F S A : Type 0} where
  -- a program without steps, as one that could have some
  abbrev pub quiet : Prog W F ⊥ A → Prog W F S A
  quiet (Return a) = Return a
  quiet (Stop f) = Stop f
  quiet (Need w k) = Need w (λ bytes. quiet (k bytes))
  quiet (Emit s p) = absurd s

  -- a run without steps, as one that could have some
  abbrev pub quiet_run : Run W F ⊥ A → Run W F S A
  quiet_run r = run (quiet_marks r.marks) r.ending

module _ (W F S A : Type 0) where
  -- its run
  abbrev pub ExecQuiet : Type 0
  ExecQuiet = (B : BlockMap W F) (p : Prog W F ⊥ A) → exec B (quiet {S = S} p) ≡ quiet_run (exec B p)

  -- what is answered of a program without steps is answered of it as a part
  abbrev pub FollowsQuiet : (U : Type 0) → (U → W → Type 0) → Type 0
  FollowsQuiet U Is =
      (part : S → ℕ → Option S) (seen : List W) (B : BlockMap W F) (p : Prog W F ⊥ A)
      (done : List ⊥) (ans : Result A (Halt F U))
      → Follows Is no_part seen (exec B p) done ans
      → Follows Is part seen (exec B (quiet {S = S} p)) [] ans

  -- what is answered of a program without steps is answered of it as a part, also where a want may come to several
  -- things
  abbrev pub GoesQuiet : Type 0 → (U : Type 0) → (U → W → Type 0) → Type 0
  GoesQuiet I U Is =
      (part : S → ℕ → Option S) (seen : List W) (Bs : I → BlockMap W F) (p : Prog W F ⊥ A)
      (done : List ⊥) (ans : Result A (Halt F U))
      → Goes Is no_part seen Bs p done ans
      → Goes Is part seen Bs (quiet {S = S} p) [] ans
