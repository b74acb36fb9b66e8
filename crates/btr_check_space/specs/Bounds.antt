-- The bounds of block groups, and how long the extents are that begin before them.
use Rattle.std.specs.Prelude.{◌≡◌, ℕ, ◌+◌, ◌<◌, ◌≤◌, nat_le, nat_lt, cond}
use Rattle.std.specs.Prelude.{List, [], ◌∷◌, flat_map, take, length, slice_index, sum_by}
use Rattle.std.specs.List.Sorted.{IsPermutation, IsNonDecreasing}
use Rattle.btr_findings.specs.declared.extent.Extent.{Extent}
use Rattle.btr_check_space.specs.declared.group.Group.{Group}

-- where a block group begins and ends
abbrev pub ends_of : Group → List ℕ
ends_of group = group.start ∷ (group.start + group.len) ∷ []

-- where block groups begin and end, in ascending order
pub record AreBounds (groups : List Group) (bounds : List ℕ) : Type 0 where
  pub same : IsPermutation (flat_map ends_of groups) bounds
  pub ascend : IsNonDecreasing bounds

-- the lengths of the extents that begin before an address
abbrev pub before : List Extent → ℕ → ℕ
before extents addr = sum_by (λ extent. cond (nat_lt extent.addr addr) extent.len 0) extents

-- how much the first of some lengths are in all
abbrev pub sum_first : ℕ → List ℕ → ℕ
sum_first count lengths = sum_by (λ (len : ℕ). len) (take count lengths)

-- more was added to the length at a place, and so to each sum of the first of them that has it
abbrev pub Lengthened : ℕ → ℕ → List ℕ → List ℕ → Type 0
Lengthened place more old new =
    (i : ℕ) → i < length old → sum_first (i + 1) new ≡ sum_first (i + 1) old + cond (nat_le place i) more 0

-- lengths of which the first, up to each, come to those of the extents that begin before the bound at its place
pub record AreLengthsBetween (extents : List Extent) (bounds lengths : List ℕ) : Type 0 where
  pub long : length lengths ≡ length bounds
  pub each : (i : ℕ) → i < length bounds → sum_first (i + 1) lengths ≡ before extents (slice_index bounds i)

-- the sums of the first of some lengths, by how many they are
pub record Sums (lengths sums : List ℕ) : Type 0 where
  pub long : length sums ≡ length lengths + 1
  pub each : (i : ℕ) → i ≤ length lengths → slice_index sums i ≡ sum_first i lengths

-- the lengths of the extents that begin before each bound, behind a first sum
pub record AreSums (extents : List Extent) (bounds sums : List ℕ) : Type 0 where
  pub long : length sums ≡ length bounds + 1
  pub each : (i : ℕ) → i < length bounds → slice_index sums (i + 1) ≡ before extents (slice_index bounds i)
