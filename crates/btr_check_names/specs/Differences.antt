-- What settles a tree of files that has most of its items from another one, whose names are settled.
use Rattle.std.specs.Prelude.{◌≡◌, ℕ, ◌==◌, Bool, true, not, List, [], filter, fold, if◌then◌else◌}
use Rattle.btr_base.specs.declared.key.Key.{Key}
use Rattle.btr_items.specs.Types.{orphan_item}
use Rattle.btr_tour.specs.Tour.{Mark, items_met}
use Rattle.btr_walk.specs.Le.{TreeItem}
use Rattle.btr_check_names.specs.declared.unpaired.Unpaired.{Unpaired}
use Rattle.btr_check_names.specs.Names.{Names, names_in}
use Rattle.btr_check_names.specs.Settled.{AreSettled}
use Rattle.btr_check_names.specs.Subvolumes.{leads_to_root}
use Rattle.btr_check_names.specs.Unpaired.{are_paired, are_whole, compared, unpaired_of, unpaired_step}

-- the inode that an item speaks of: an orphan item names it by its offset
abbrev pub inode_of_key : Key → ℕ
inode_of_key key = if key.kind == orphan_item then key.offset else key.objectid

-- the items that speak of some inodes
abbrev pub items_of : (ℕ → Bool) → List TreeItem → List TreeItem
items_of own items = filter (λ (item : TreeItem). own (inode_of_key item.key)) items

-- all other inodes
abbrev pub others : (ℕ → Bool) → ℕ → Bool
others own number = not (own number)

-- what is kept where a tour of one tree is followed by a tour of another one that it is compared with
abbrev pub compared_of : ℕ → List Mark → List Mark → Unpaired
compared_of dirid ours theirs = fold unpaired_step (compared (unpaired_of dirid ours)) theirs

-- two trees have the same items but for those of some inodes. Of these, one tour meets all that the second tree has, and they are
-- whole; another one meets all that the first tree has, and then all are paired
pub record Settles (dirid : ℕ) (own : ℕ → Bool) (before after : List TreeItem) (ours theirs : List Mark) : Type 0 where
  pub shared : items_of (others own) before ≡ items_of (others own) after
  pub ours_met : items_met ours ≡ items_of own after
  pub theirs_met : items_met theirs ≡ items_of own before
  pub whole : are_whole (unpaired_of dirid ours) ≡ true
  pub paired : are_paired (compared_of dirid ours theirs) ≡ true

-- a tree of whose items most are those of a settled one: it is settled too; and where neither tour met entries that lead to
-- subvolumes both have the same ones
pub record IsSettledBy (before after : Names) (met : Unpaired) : Type 0 where
  pub settled : AreSettled after
  pub subvolumes : met.subvolumes ≡ [] → filter leads_to_root after.indexed ≡ filter leads_to_root before.indexed

-- a tree costs its differences
abbrev pub DifferenceLaw : Type 0
DifferenceLaw = (tree other dirid : ℕ) (own : ℕ → Bool) (before after : List TreeItem) (ours theirs : List Mark)
    → AreSettled (names_in tree dirid before) → Settles dirid own before after ours theirs
    → IsSettledBy (names_in tree dirid before) (names_in other dirid after) (compared_of dirid ours theirs)
