-- Tours of a tree over ranges of inodes.
use Rattle.std.specs.Prelude.{◌≡◌, ℕ, ◌^◌, ◌-◌, ◌==◌, ◌&&◌, Bool, true, not, nat_le, List, []}
use Rattle.std.specs.Prelude.{filter_map, flat_map}
use Rattle.std.specs.List.{list_all, list_any}
use Rattle.btr_chunk.specs.declared.chunk.Chunk.{Chunk}
use Rattle.btr_items.specs.declared.sum_run.SumRun.{SumRun}
use Rattle.btr_items.specs.Types.{orphan_item}
use Rattle.btr_check_names.specs.Differences.{Settles, compared_of, items_of, others}
use Rattle.btr_check_names.specs.Unpaired.{are_paired, are_whole, unpaired_of}
use Rattle.btr_check_sums.specs.Items.{loose_in, used_in}
use Rattle.btr_check_sums.specs.Sums.{tree_missing}
use Rattle.btr_tour.specs.Tour.{Mark, items_met, tour, whole}
use Rattle.btr_walk.specs.declared.place.RootPlace.{RootPlace}
use Rattle.btr_walk.specs.declared.block_pointer.BlockPointer.{BlockPointer}
use Rattle.btr_walk.specs.Le.{TreeItem}
use Rattle.btr_walk.specs.Reading.{Map}
use Rattle.btr_check_differences.specs.declared.inode_range.InodeRange.{InodeRange}
use Rattle.btr_check_differences.specs.Differing.{DifferAt, items_below}
use Rattle.btr_check_differences.specs.Ranges.{are_apart, high, items_among, low}

-- what tours of a tree over ranges of inodes meet, one after another
abbrev pub tours : Map → RootPlace → List InodeRange → List Mark
tours B root ranges = flat_map (λ (range : InodeRange). tour (low range) (high range) B root) ranges

-- the items that they meet are those of the whole tree that are of these inodes
abbrev pub ToursLaw : Type 0
ToursLaw = (B : Map) (root : RootPlace) (ranges : List InodeRange) → are_apart ranges ≡ true
    → items_met (tours B root ranges) ≡ items_among ranges (items_met (whole B root))

-- an item speaks of the inode of its key, and isn't an orphan's; and the numbers of the key have
-- their sizes
abbrev pub is_plain : TreeItem → Bool
is_plain item = not (item.key.kind == orphan_item) && (nat_le item.key.kind 255
    && nat_le item.key.offset (2 ^ 64 - 1))

-- an inode is in one of some ranges
abbrev pub is_own : List InodeRange → ℕ → Bool
is_own ranges number = list_any (λ (range : InodeRange). nat_le range.first number
    && nat_le number range.last) ranges

-- Two trees have these blocks below their roots, and differ there by the inodes of some ranges
-- alone. Nothing of the first one is an orphan's, nor of what tours of the second one over these
-- ranges meet. These are whole, and with tours of the first one all are paired
pub record AreCompared (B : Map) (dirid level : ℕ) (before after : RootPlace)
    (old new : List BlockPointer) (ranges : List InodeRange) : Type 0 where
  pub below : items_met (whole B before) ≡ items_below B level old
  pub below_new : items_met (whole B after) ≡ items_below B level new
  pub apart : are_apart ranges ≡ true
  pub differ : DifferAt B level old new ranges
  pub plain : list_all is_plain (items_met (whole B before)) ≡ true
  pub plain_new : list_all is_plain (items_met (tours B after ranges)) ≡ true
  pub whole_new : are_whole (unpaired_of dirid (tours B after ranges)) ≡ true
  pub paired : are_paired (compared_of dirid (tours B after ranges) (tours B before ranges)) ≡ true

-- such tours settle the second tree by the first one; nothing of it is an orphan's either
pub record AreAlike (B : Map) (dirid : ℕ) (before after : RootPlace) (ranges : List InodeRange)
    : Type 0 where
  pub settles : Settles dirid (is_own ranges)
      (items_met (whole B before)) (items_met (whole B after))
      (tours B after ranges) (tours B before ranges)
  pub plain : list_all is_plain (items_met (whole B after)) ≡ true

-- trees that are so compared are alike
abbrev pub AlikeLaw : Type 0
AlikeLaw = (B : Map) (dirid level : ℕ) (before after : RootPlace)
    (old new : List BlockPointer) (ranges : List InodeRange)
    → AreCompared B dirid level before after old new ranges → AreAlike B dirid before after ranges

-- nothing is missing of the checksums of the sectors that files use, of which these are the items
abbrev pub NothingMissing : List Chunk → List SumRun → ℕ → List TreeItem → Type 0
NothingMissing chunks runs tree items =
    tree_missing chunks runs tree (filter_map loose_in items) (filter_map used_in items) ≡ []

-- nothing is missing of a tree where nothing is of its own items, nor of a tree that has the same
-- items but for these
abbrev pub MissingLaw : Type 0
MissingLaw = (chunks : List Chunk) (runs : List SumRun) (tree : ℕ) (own : ℕ
    → Bool) (before after : List TreeItem)
    → items_of (others own) before ≡ items_of (others own) after
    → NothingMissing chunks runs tree before
    → NothingMissing chunks runs tree (items_of own after) → NothingMissing chunks runs tree after
