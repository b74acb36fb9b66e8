-- Tests of numbers, and zeros.
use Rattle.std.proofs.Common.{◌≡◌, ℕ, zero, suc, ◌≤◌, true, false, List, ◌∷◌, ap, ◌∙◌, arith}
use Rattle.std.specs.Prelude.{min, take, replicate, nat_le, nat_lt, ◌==◌, ◌<◌, ◌≢◌}
use Rattle.std.proofs.lemmas.Bool.Decides.{nat_tests}

-- tests of numbers
pub is_equal : (a b : ℕ) → a ≡ b → (a == b) ≡ true
is_equal a b e = grind (arith, nat_tests)

-- numbers that are not equal are not found equal
pub is_other : (a b : ℕ) → a ≢ b → (a == b) ≡ false
is_other a b e = grind (arith, nat_tests)

-- a number that is at most another is found at most it
pub is_most : (a b : ℕ) → a ≤ b → nat_le a b ≡ true
is_most a b h = grind (arith, nat_tests)

-- a number that is above another is not found at most it
pub is_above : (a b : ℕ) → b < a → nat_le a b ≡ false
is_above a b h = grind (arith, nat_tests)

-- a number that is below another is found below it
pub is_less : (a b : ℕ) → a < b → nat_lt a b ≡ true
is_less a b h = grind (arith, nat_tests)

-- a number that is at least another is not found below it
pub is_least : (a b : ℕ) → b ≤ a → nat_lt a b ≡ false
is_least a b h = grind (arith, nat_tests)

-- some of so many zeros
abbrev zeros : ℕ → List ℕ
zeros n = replicate n 0

-- the first of some zeros are as many zeros as are wanted, or all that there are
pub zeros_cut : (count n : ℕ) → take {A = ℕ} n (replicate count 0) ≡ replicate (min n count) 0
zeros_cut count n = cut n count
  where
    none_of : (m : ℕ) → 0 ≡ min 0 m
    none_of m = omega arith

    of_none : (k : ℕ) → 0 ≡ min (suc k) 0
    of_none k = omega arith

    one_more : (k m : ℕ) → suc (min k m) ≡ min (suc k) (suc m)
    one_more k m = omega arith

    -- the first of some zeros are zeros, as many as the smaller of the two counts
    cut : (k m : ℕ) → take {A = ℕ} k (replicate m 0) ≡ replicate (min k m) 0
    cut zero m = ap zeros (none_of m)
    cut (suc k) zero = ap zeros (of_none k)
    cut (suc k) (suc m) = ap (λ l. 0 ∷ l) (cut k m) ∙ ap zeros (one_more k m)
