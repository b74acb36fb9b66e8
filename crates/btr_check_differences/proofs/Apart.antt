-- Ranges that are apart.
use Rattle.std.proofs.Common.{◌≡◌, ◌∙◌, ℕ, zero, suc, ◌+◌, ◌<◌, Bool, true, false, ◌&&◌, List, [], ◌∷◌, length, drop, get_or, refl, ap}
use Rattle.std.proofs.lemmas.List.{drop_more}
use Rattle.btr_check_differences.specs.declared.inode_range.InodeRange.{InodeRange}
use Rattle.btr_check_differences.specs.Ranges.{are_apart, is_before, is_range}
use Rattle.btr_read.proofs.Rebuilt.{and_false}

-- behind the last range there is none, and no ranges are apart
pub apart_none : (xs : List InodeRange) → are_apart (drop (length xs) xs) ≡ true
apart_none [] = refl
apart_none (x ∷ xs) = apart_none xs

-- ranges from a place on are apart just where the one there is a range before the others, and these are apart
here : (xs : List InodeRange) (i : ℕ) (d : InodeRange) → i < length xs
    → are_apart (drop i xs) ≡ (is_range (get_or xs i d) && (is_before (get_or xs i d) (drop (i + 1) xs) && are_apart (drop (i + 1) xs)))
here xs i d lt = ap are_apart (drop_more xs i d lt)

-- one more before them
pub apart_more : (xs : List InodeRange) (i : ℕ) (d : InodeRange) → i < length xs → is_range (get_or xs i d) ≡ true
    → is_before (get_or xs i d) (drop (i + 1) xs) ≡ true → are_apart (drop (i + 1) xs) ≡ true → are_apart (drop i xs) ≡ true
apart_more xs i d lt is before apart = here xs i d lt ∙ (λ k. is k && (before k && apart k))

-- ranges aren't apart where those from a place on aren't
not_behind : (xs : List InodeRange) (i : ℕ) → are_apart (drop i xs) ≡ false → are_apart xs ≡ false
not_behind xs zero e = e
not_behind [] (suc i) e = e
not_behind (x ∷ xs) (suc i) e =
    ap (λ b. is_range x && (is_before x xs && b)) (not_behind xs i e) ∙ ap (λ b. is_range x && b) (and_false (is_before x xs)) ∙ and_false (is_range x)

-- one that is no range, or that doesn't end before the next one begins
pub not_apart : (xs : List InodeRange) (i : ℕ) (d : InodeRange) → i < length xs
    → (is_range (get_or xs i d) && is_before (get_or xs i d) (drop (i + 1) xs)) ≡ false → are_apart xs ≡ false
not_apart xs i d lt e =
    not_behind xs i (here xs i d lt ∙ by (is_range (get_or xs i d)) (is_before (get_or xs i d) (drop (i + 1) xs)) (are_apart (drop (i + 1) xs)) e)
  where
    by : (a b c : Bool) → (a && b) ≡ false → (a && (b && c)) ≡ false
    by true true c e = cc
    by true false c e = refl
    by false b c e = refl
