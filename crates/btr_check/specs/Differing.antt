-- Trees of files that differ little from sound ones.
use Rattle.std.specs.Prelude.{◌≡◌, ◌-◌, Bool, true, List, [], filter_map, fold, Option, IfSome}
use Rattle.std.specs.List.{list_all}
use Rattle.btr_check_differences.specs.declared.inode_range.InodeRange.{InodeRange}
use Rattle.btr_check_differences.specs.Differing.{DifferAt}
use Rattle.btr_check_differences.specs.Law.{NothingMissing, is_plain, tours}
use Rattle.btr_check_names.specs.declared.unpaired.Unpaired.{Unpaired}
use Rattle.btr_check_names.specs.Differences.{compared_of}
use Rattle.btr_check_names.specs.Unpaired.{are_paired, are_whole, unpaired_of}
use Rattle.btr_check_space.specs.declared.address_ranges.AddressRange.{AddressRange}
use Rattle.btr_read.specs.declared.want.Want.{Want}
use Rattle.btr_tour.specs.Tour.{Mark, items_met}
use Rattle.btr_check.specs.Data.{sum_runs}
use Rattle.btr_check.specs.Families.{AreSumRanges}
use Rattle.btr_check.specs.Filesystem.{Filesystem}
use Rattle.btr_check.specs.SoundTrees.{AreBelow, IsKeptOf}
use Rattle.btr_check.specs.declared.sound_tree.RootedTree.{RootedTree}
use Rattle.btr_check.specs.declared.sound_tree.SoundTree.{SoundTree}

-- no want
abbrev pub OfNone : Filesystem → Want → Type 0
OfNone fs want = ⊥

-- a tree can be compared with a sound one: both have blocks below their roots, on one level, and the same first directory, and nothing of the
-- sound one is an orphan's
pub record CanCompare (before : SoundTree) (after : RootedTree) : Type 0 where
  pub level : before.rooted.tree.place.level ≡ after.tree.place.level
  pub dirid : before.rooted.tree.dirid ≡ after.tree.dirid
  pub plain : before.is_plain ≡ true
  pub some : before.rooted.children.items ≡ [] → ⊥
  pub some_new : after.children.items ≡ [] → ⊥

module _ (fs : Filesystem) where
  -- these are the inodes by which two trees may differ
  abbrev pub Differ : RootedTree → RootedTree → List InodeRange → Type 0
  Differ before after ranges = DifferAt fs.blocks (after.tree.place.level - 1) before.children.items after.children.items ranges

  -- what tours of a tree over the inodes in some ranges meet
  abbrev pub own_marks : RootedTree → List InodeRange → List Mark
  own_marks rooted ranges = tours fs.blocks rooted.tree.place ranges

  -- Nothing is wrong with what a tree has of some inodes, but for names that wait for their counterparts: nothing of it is an orphan's, and, where
  -- these are the addresses that have checksums, nothing is missing of these
  pub record IsWholeAlone (sums : List AddressRange) (rooted : RootedTree) (ranges : List InodeRange) : Type 0 where
    pub plain : list_all is_plain (items_met (own_marks rooted ranges)) ≡ true
    pub whole : are_whole (unpaired_of rooted.tree.dirid (own_marks rooted ranges)) ≡ true
    pub summed : AreSumRanges fs sums → NothingMissing fs.chunks (sum_runs fs) rooted.tree.id (items_met (own_marks rooted ranges))

  -- with what another tree has of these inodes all names are paired, and none of either leads to a subvolume
  pub record ArePairedBy (before after : RootedTree) (ranges : List InodeRange) : Type 0 where
    pub paired : are_paired (compared_of after.tree.dirid (own_marks after ranges) (own_marks before ranges)) ≡ true
    pub subvolumes : (compared_of after.tree.dirid (own_marks after ranges) (own_marks before ranges)).subvolumes ≡ []

  -- what a tree has of some inodes, and what another one has of them, add up: nothing is wrong with the ones alone, and with the others they are paired
  pub record AddUp (sums : List AddressRange) (before after : RootedTree) (ranges : List InodeRange) : Type 0 where
    pub alone : IsWholeAlone sums after ranges
    pub both : ArePairedBy before after ranges

  -- a tree is sound where another one is, and has the same names of subvolumes
  abbrev pub IsSoundBy : SoundTree → RootedTree → Type 0
  IsSoundBy before after =
      IsKeptOf fs before → AreBelow fs after.tree after.children.items
      → IsKeptOf fs (record { rooted = after; names = before.names; is_plain = true })
