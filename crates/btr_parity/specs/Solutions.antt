-- Lost slices, as solutions of equations.
use Rattle.std.specs.Prelude.{◌≡◌, ℕ, List, length, slice_set}
use Rattle.btr_parity.specs.Field.{power}
use Rattle.btr_parity.specs.Slices.{IsSlice, plus, scaled, parity_p, parity_q}

-- X is the one slice of this size that meets the equations
pub record IsTheOne (size : ℕ) (equations : List ℕ → Type 0) (X : List ℕ) : Type 0 where
  pub slice : IsSlice size X
  pub meets : equations X
  pub only : (Z : List ℕ) → IsSlice size Z → equations Z → Z ≡ X

-- 2^index * X is the given slice
abbrev pub Weighs : ℕ → List ℕ → List ℕ → Type 0
Weighs index given X = scaled (power index) X ≡ given

-- with some slice Y, X + Y is p, and 2^x * X + 2^y * Y is q
pub record WeighsWith (p q : List ℕ) (x y : ℕ) (X : List ℕ) : Type 0 where
  pub other : List ℕ
  pub slice : IsSlice (length p) other
  pub sum : plus X other ≡ p
  pub weighted_sum : plus (scaled (power x) X) (scaled (power y) other) ≡ q

-- with X in place i, the slices have this P
abbrev pub FitsP : ℕ → List (List ℕ) → List ℕ → ℕ → List ℕ → Type 0
FitsP size slices P i X = parity_p size (slice_set slices i X) ≡ P

-- with X in place i, the slices have this Q
abbrev pub FitsQ : ℕ → List (List ℕ) → List ℕ → ℕ → List ℕ → Type 0
FitsQ size slices Q i X = parity_q size (slice_set slices i X) ≡ Q

-- with X in place i and some slice in place j, the slices have these P and Q
pub record FitsBoth (size : ℕ) (slices : List (List ℕ)) (P Q : List ℕ) (i j : ℕ) (X : List ℕ) : Type 0 where
  pub other : List ℕ
  pub slice : IsSlice size other
  pub sum : parity_p size (slice_set (slice_set slices j other) i X) ≡ P
  pub weighted_sum : parity_q size (slice_set (slice_set slices j other) i X) ≡ Q
