-- By which inodes two trees differ.
use Rattle.std.specs.Prelude.{◌≡◌, ℕ, ◌-◌, ◌<◌, List, length, flat_map, slice_index_or}
use Rattle.btr_base.specs.Key.{last_key}
use Rattle.btr_tour.specs.Tour.{first_key, items_met, tour_at}
use Rattle.btr_walk.specs.declared.block_pointer.BlockPointer.{BlockPointer}
use Rattle.btr_walk.specs.Le.{TreeItem}
use Rattle.btr_walk.specs.Reading.{Map}
use Rattle.btr_check_differences.specs.declared.inode_range.InodeRange.{InodeRange}
use Rattle.btr_check_differences.specs.declared.shared.Shared.{Shared}
use Rattle.btr_check_differences.specs.Ranges.{AreIn, items_beside}

-- the items below the block of a level at a pointer
abbrev pub items_at : Map → ℕ → BlockPointer → List TreeItem
items_at B level pointer = items_met (tour_at first_key last_key B level pointer)

-- the items below some blocks of a level
abbrev pub items_below : Map → ℕ → List BlockPointer → List TreeItem
items_below B level block_pointers = flat_map (items_at B level) block_pointers

-- below two lists of blocks of a level stand the same items, but for those of the inodes in these
-- ranges, whatever others are left out beside
abbrev pub DifferAt : Map → ℕ → List BlockPointer → List BlockPointer → List InodeRange → Type 0
DifferAt B level before after ranges =
    (wider : List InodeRange) → AreIn ranges wider
    → items_beside wider (items_below B level before)
    ≡ items_beside wider (items_below B level after)

-- the children of some blocks of a level, which stand below them
abbrev pub AreBelow : Map → ℕ → List BlockPointer → List BlockPointer → Type 0
AreBelow B level block_pointers children = items_below B (level - 1) children ≡ items_below B level block_pointers

-- two lists have the same block at these places
pub record IsShared (before after : List BlockPointer) (at : Shared) : Type 0 where
  pub within : at.before < length before
  pub within_other : at.after < length after
  pub same : (d : BlockPointer) → slice_index_or before at.before d ≡ slice_index_or after at.after d
