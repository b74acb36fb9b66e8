-- Rows beside those of made directories.
use Rattle.std.proofs.Common.{◌≡◌, ◌∙◌, ℕ, zero, suc, ◌+◌, ◌-◌, ◌<◌, ◌==◌, List, [], ◌∷◌, ◌++◌, length, sym, ap, arith}
use Rattle.btr_rack.specs.declared.row.Row.{Row}
use Rattle.btr_trial.specs.Stated.{directories, directory, same_rows}
use Rattle.btr_files.proofs.Extending.{some_test}

-- the first of some directories, and the others
pub first_left : (first count : ℕ) → 0 < count → directories first count ≡ directory first ++ directories (first + 1) (count - 1)
first_left first zero some = absurd (omega (arith, some))
first_left first (suc count) some = ap (λ n. directory first ++ directories (first + 1) n) (omega arith)

-- nothing is the rows of none
pub none_left : (rows : List Row) (number i : ℕ) → number - i ≡ 0 → same_rows rows (directories i (number - i)) ≡ (length rows == 0)
none_left [] number i none = ap (λ n. same_rows [] (directories i n)) none
none_left (row ∷ rows) number i none = ap (λ n. same_rows (row ∷ rows) (directories i n)) none ∙ sym (some_test (length (row ∷ rows)) (omega arith))
