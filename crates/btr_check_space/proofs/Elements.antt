-- Elements of lists by their places.
use Rattle.std.proofs.Common.{◌≡◌, ℕ, zero, suc, ◌+◌, ◌<◌, ◌≤◌, List, [], ◌∷◌, ◌++◌, length, take, zip, slice_get, get_or, Some, refl, ap, ◌∙◌, arith}

-- one more element
pub taken_more : {X : Type 0} (xs : List X) (i : ℕ) (x : X) → slice_get xs i ≡ Some x → take (i + 1) xs ≡ take i xs ++ x ∷ []
taken_more [] i x is = cc
taken_more (y ∷ ys) zero x is = let same : y ≡ x = cc in ap (λ z. z ∷ []) same
taken_more (y ∷ ys) (suc i) x is =
    let one : suc i + 1 ≡ suc (i + 1) = omega arith in
    ap (λ n. take n (y ∷ ys)) one ∙ ap (λ l. y ∷ l) (taken_more ys i x is)

-- where there is an element, it is that whatever stands for none
pub default_free : {X : Type 0} (xs : List X) (i : ℕ) (d e : X) → i < length xs → get_or xs i d ≡ get_or xs i e
default_free [] i d e below = absurd (omega (arith, below))
default_free (x ∷ xs) zero d e below = refl
default_free (x ∷ xs) (suc i) d e below = default_free xs i d e (omega (arith, below))

-- pairs of two lists
pub zip_long : {X Y : Type 0} (xs : List X) (ys : List Y) (i : ℕ) → i < length xs → i < length ys → i < length (zip xs ys)
zip_long [] ys i below also = absurd (omega (arith, below))
zip_long (x ∷ xs) [] i below also = absurd (omega (arith, also))
zip_long (x ∷ xs) (y ∷ ys) zero below also = omega arith
zip_long (x ∷ xs) (y ∷ ys) (suc i) below also = let rest : i < length (zip xs ys) = zip_long xs ys i (omega (arith, below)) (omega (arith, also)) in omega arith

-- pairs of two lists are no more than the second one has elements
pub zip_short : {X Y : Type 0} (xs : List X) (ys : List Y) → length (zip xs ys) ≤ length ys
zip_short [] ys = omega arith
zip_short (x ∷ xs) [] = omega arith
zip_short (x ∷ xs) (y ∷ ys) = let rest : length (zip xs ys) ≤ length ys = zip_short xs ys in omega arith
