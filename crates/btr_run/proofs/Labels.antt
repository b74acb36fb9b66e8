-- One more byte of a label.
use Rattle.std.proofs.Common.{◌≡◌, ℕ, true, false, eqb, List, [], ◌∷◌, ◌++◌, refl, arith}
use Rattle.std.proofs.lemmas.Bool.Decides.{nat_tests}
use Rattle.btr_base.specs.Shown.{shown}
use Rattle.btr_run.specs.Text.{label_text}

-- a byte that isn't zero is shown before the rest of the label
pub label_more : (b : ℕ) (rest : List ℕ) → (b ≡ 0 → ⊥) → label_text (b ∷ rest) ≡ shown b ++ label_text rest
unfolding label_text
label_more b rest ne = let e : eqb b 0 ≡ false = grind (arith, nat_tests) in rw e refl

-- at a zero byte the label's text ends
pub label_end : (b : ℕ) (rest : List ℕ) → b ≡ 0 → label_text (b ∷ rest) ≡ []
unfolding label_text
label_end b rest is = let e : eqb b 0 ≡ true = grind (arith, nat_tests) in rw e refl

-- an empty label has no text
pub label_none : label_text [] ≡ []
unfolding label_text
label_none = refl
