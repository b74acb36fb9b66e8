-- The slices of a full stripe, as lists of bytes, and their parity (docs/FORMAT.md, "Parity").
use Rattle.std.specs.Prelude.{◌≡◌, ℕ, ◌+◌, ◌<◌, List, [], ◌∷◌, All, length, map, replicate, bit_xor}
use Rattle.std.specs.Simd.Lanes.{zip2}
use Rattle.btr_parity.specs.Field.{product, power}

-- a list of so many bytes
pub record IsSlice (size : ℕ) (slice : List ℕ) : Type 0 where
  pub long : length slice ≡ size
  pub bytes : All (λ b. b < 256) slice

-- the slice of zeros
abbrev pub zeros : ℕ → List ℕ
zeros size = replicate size 0

-- the sum of two slices of one size
abbrev pub plus : List ℕ → List ℕ → List ℕ
plus xs ys = zip2 bit_xor xs ys

-- c times a slice
abbrev pub scaled : ℕ → List ℕ → List ℕ
scaled c xs = map (product c) xs

-- P: the sum of slices of one size
unfoldable pub parity_p : ℕ → List (List ℕ) → List ℕ
parity_p size [] = zeros size
parity_p size (slice ∷ slices) = plus slice (parity_p size slices)

-- the sum of 2^i times each slice, where i is the index of the first, and goes up by one
unfoldable pub weighted : ℕ → ℕ → List (List ℕ) → List ℕ
weighted size i [] = zeros size
weighted size i (slice ∷ slices) = plus (scaled (power i) slice) (weighted size (i + 1) slices)

-- Q: the sum of 2^i times slice i
abbrev pub parity_q : ℕ → List (List ℕ) → List ℕ
parity_q size slices = weighted size 0 slices
