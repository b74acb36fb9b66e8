-- The newest of several superblocks.
use Rattle.std.specs.Prelude.{◌≡◌, ℕ, ◌≤◌, ◌<◌, Bool, nat_le, List, Option, Some, slice_get, find}
use Rattle.std.specs.List.{list_all, position_or_len}
use Rattle.btr_super.specs.declared.superblock.Super.{Super}

-- no superblock of the list has a greater generation
abbrev pub is_newest : List Super → Super → Bool
is_newest supers s = list_all (λ t. nat_le t.generation s.generation) supers

-- the first superblock with the greatest generation
abbrev pub newest : List Super → Option Super
newest supers = find (is_newest supers) supers

-- the index of the first superblock with the greatest generation
abbrev pub newest_index : List Super → ℕ
newest_index supers = position_or_len (is_newest supers) supers

-- the same said of a superblock: it stands in the list, none is greater, and those before it are less
pub record IsNewest (supers : List Super) (newest : Super) : Type 0 where
  pub index : ℕ
  pub stands : slice_get supers index ≡ Some newest
  pub greatest : (k : ℕ) (s : Super) → slice_get supers k ≡ Some s → s.generation ≤ newest.generation
  pub first : (k : ℕ) (s : Super) → k < index → slice_get supers k ≡ Some s → s.generation < newest.generation
