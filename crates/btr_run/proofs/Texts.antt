-- Words that are read one after another.
use Rattle.std.proofs.Common.{◌≡◌, ℕ, ◌+◌, ◌<◌, ◌≤◌, List, [], ◌∷◌, ◌++◌, ⊎_elim, length, get_or, Option, Some, None, refl, sym, ◌∙◌, subst, arith}
use Rattle.std.specs.Prelude.{slice_get}
use Rattle.std.specs.Option.{IfSome}
use Rattle.std.proofs.Math.Nat.{eq-or-lt_of_le}
use Rattle.std.proofs.lemmas.List.{get_or_append_left, get_or_push, length-append}
use Rattle.std.proofs.lemmas.Option.{get_or_from_slice_get, slice_get-get_or, slice_get_within}
use Rattle.btr_run.specs.CommandLine.{AreTexts, IsTextOf}

-- the words before one of a number were read
pub record AreRead (words texts : List (List ℕ)) (number : ℕ) : Type 0 where
  many : length texts ≡ number
  within : number ≤ length words
  each : (k : ℕ) → k < number → IsTextOf (get_or words k []) (get_or texts k [])

-- the words before one of a number, where they are told
abbrev pub AreReadOf : Option (List (List ℕ)) → List (List ℕ) → ℕ → Type 0
AreReadOf told texts number = IfSome told (λ words. AreRead words texts number)

-- before the first word none was read
pub none_read : (told : Option (List (List ℕ))) → AreReadOf told [] 0
none_read None = tt
none_read (Some words) = record { many = refl; within = omega arith; each = λ k lt. absurd (omega (arith, lt)) }

-- one word more was read
pub one_read : (told : Option (List (List ℕ))) (texts : List (List ℕ)) (number : ℕ) (bytes text : List ℕ) → AreReadOf told texts number
    → IfSome told (λ words. slice_get words number ≡ Some bytes) → IsTextOf bytes text → AreReadOf told (texts ++ text ∷ []) (number + 1)
one_read None texts number bytes text read is its = tt
one_read (Some words) texts number bytes text read is its = record {
  many = omega (arith, length-append texts (text ∷ []), read.many);
  within = omega (arith, slice_get_within words number bytes is);
  each = λ k lt. ⊎_elim (λ (same : k ≡ number). subst (λ n. IsTextOf (get_or words n []) (get_or (texts ++ text ∷ []) n [])) (sym same) last)
      (λ (below : k < number). subst (IsTextOf (get_or words k [])) (sym (get_or_append_left texts (text ∷ []) [] k (omega (arith, below, read.many))))
      (read.each k below))
      (eq-or-lt_of_le (omega (arith, lt)));
}
  where
    last : IsTextOf (get_or words number []) (get_or (texts ++ text ∷ []) number [])
    last = subst (λ b. IsTextOf b (get_or (texts ++ text ∷ []) number [])) (sym (get_or_from_slice_get words number bytes [] is))
        (subst (IsTextOf bytes) (sym (get_or_push texts text [] number read.many)) its)

-- where there is no further word all of them were read
pub all_read : (told : Option (List (List ℕ))) (texts : List (List ℕ)) (number : ℕ) → AreReadOf told texts number
    → IfSome told (λ words. slice_get words number ≡ None) → AreTexts told texts
all_read None texts number read none = tt
all_read (Some words) texts number read none = record { many = read.many ∙ end; each = λ k lt. read.each k (omega (arith, lt, end)) }
  where
    end : number ≡ length words
    end = ⊎_elim (λ same. same) (λ (lt : number < length words). absurd (cc (sym none ∙ slice_get-get_or words number [] lt))) (eq-or-lt_of_le read.within)
