-- Wants, as marks with no step among them.
use Rattle.std.proofs.Common.{◌≡◌, ℕ, List, [], ◌++◌, Option, Result, Ok, Err, refl, sym, ap, ◌∙◌, subst}
use Rattle.btr_prog.specs.Prog.{Run, run, prepend, want_marks}
use Rattle.btr_prog.specs.Answers.{Halt, Fault, Follows, no_part}
use Rattle.btr_prog.proofs.Follow.{follows_behind}
use Rattle.btr_prog.proofs.Runs.{prepend-prepend}
use Rattle.btr_prog.proofs.Tries.{steps_of-marks, wants_of-marks, want_marks-append}

-- some wants before a run, and others before those
pub past_both : {W F S R : Type 0} (xs ys : List W) (r : Run W F S R) → prepend (want_marks xs) (prepend (want_marks ys) r) ≡ prepend (want_marks (xs ++ ys)) r
past_both xs ys r = prepend-prepend (want_marks xs) (want_marks ys) r ∙ ap (λ ms. prepend ms r) (sym (want_marks-append xs ys))

module _ {W F S U R : Type 0} (Is : U → W → Type 0) (seen past : List W) (whole : Run W F S R) where
  -- what is answered of a run is answered of it behind some wants
  pub behind_wants : (part : S → ℕ → Option S) (rest : Run W F S R) (done : List S) (ans : Result R (Halt F U)) → whole ≡ prepend (want_marks past) rest
      → Follows Is part (seen ++ past) rest done ans → Follows Is part seen whole done ans
  behind_wants part rest done ans is f =
      subst (λ (r : Run W F S R). Follows Is part seen r done ans) (sym is)
      (subst (λ (d : List S). Follows Is part seen (prepend (want_marks past) rest) (d ++ done) ans) (steps_of-marks S past)
      (follows_behind Is part seen (want_marks past) rest done ans
      (subst (λ (ws : List W). Follows Is part (seen ++ ws) rest done ans) (sym (wants_of-marks S past)) f)))

  -- some wants, and then a value
  pub wants_value : (out : R) → whole ≡ prepend (want_marks past) (run [] (Ok out)) → Follows Is no_part seen whole [] (Ok out)
  wants_value out is = behind_wants no_part (run [] (Ok out)) [] (Ok out) is (refl, refl)

  -- some wants, and then a fault
  pub wants_fault : (f : F) → whole ≡ prepend (want_marks past) (run [] (Err f)) → Follows Is no_part seen whole [] (Err (Fault f))
  wants_fault f is = behind_wants no_part (run [] (Err f)) [] (Err (Fault f)) is (refl, refl)
