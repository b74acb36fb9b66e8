-- What a tour of a tree leaves, one mark after another.
use Rattle.std.proofs.Common.{◌≡◌, ℕ, List, [], ◌∷◌, ◌++◌, flat_map, fold, sym, ◌∙◌, append_assoc, append-nil}
use Rattle.btr_tour.specs.Tour.{Mark, Block, Child, Item, Left, items_met}
use Rattle.btr_walk.specs.Le.{TreeItem}
use Rattle.btr_check_names.specs.declared.inode_at.InodeAt.{InodeAt}
use Rattle.btr_check_names.specs.Entry.{Entry, NameRef}
use Rattle.btr_check_names.specs.Items.{inodes_in, indexed_in, hashed_in, refs_in, orphans_in}
use Rattle.btr_check_names.specs.Subvolume.{NamedSubvolume}
use Rattle.btr_check_names.specs.Subvolumes.{Subvolumes, SubvolumesLaw, no_subvolumes, root_refs_in, root_backrefs_in, subvolumes_with, subvolumes_step}
use Rattle.btr_check_names.specs.Names.{Names, NamesLaw, no_names, names_with, names_step}

-- the inodes in some items
abbrev inodes_of : List TreeItem → List InodeAt
inodes_of items = flat_map (λ (item : TreeItem). inodes_in item.key item.body) items

-- the entries at indexes in some items
abbrev indexed_of : List TreeItem → List Entry
indexed_of items = flat_map (λ (item : TreeItem). indexed_in item.key item.body) items

-- the entries under hashes in some items
abbrev hashed_of : List TreeItem → List Entry
hashed_of items = flat_map (λ (item : TreeItem). hashed_in item.key item.body) items

-- the references in some items
abbrev refs_of : List TreeItem → List NameRef
refs_of items = flat_map (λ (item : TreeItem). refs_in item.key item.body) items

-- the orphans in some items
abbrev orphans_of : List TreeItem → List ℕ
orphans_of items = flat_map (λ (item : TreeItem). orphans_in item.key) items

-- what was held, and what some items hold
abbrev joined : Names → List TreeItem → Names
joined names items = record {
  tree = names.tree;
  dirid = names.dirid;
  inodes = names.inodes ++ inodes_of items;
  indexed = names.indexed ++ indexed_of items;
  hashed = names.hashed ++ hashed_of items;
  refs = names.refs ++ refs_of items;
  orphans = names.orphans ++ orphans_of items;
}

-- with no items more there is just what was held
joined_none : (names : Names) → names ≡ joined names []
joined_none names = λ i. record {
  tree = names.tree;
  dirid = names.dirid;
  inodes = (sym (append-nil names.inodes)) i;
  indexed = (sym (append-nil names.indexed)) i;
  hashed = (sym (append-nil names.hashed)) i;
  refs = (sym (append-nil names.refs)) i;
  orphans = (sym (append-nil names.orphans)) i;
}

-- one item and then some others are held as all of them together
joined_one : (names : Names) (item : TreeItem) (items : List TreeItem) → joined (names_with names item.key item.body) items ≡ joined names (item ∷ items)
joined_one names item items = λ i. record {
  tree = names.tree;
  dirid = names.dirid;
  inodes = append_assoc names.inodes (inodes_in item.key item.body) (inodes_of items) i;
  indexed = append_assoc names.indexed (indexed_in item.key item.body) (indexed_of items) i;
  hashed = append_assoc names.hashed (hashed_in item.key item.body) (hashed_of items) i;
  refs = append_assoc names.refs (refs_in item.key item.body) (refs_of items) i;
  orphans = append_assoc names.orphans (orphans_in item.key) (orphans_of items) i;
}

-- a tour adds to what was held what the items that it met hold
fold_joins : (names : Names) (marks : List Mark) → fold names_step names marks ≡ joined names (items_met marks)
fold_joins names [] = joined_none names
fold_joins names (Block place block ∷ marks) = fold_joins names marks
fold_joins names (Child addr place ∷ marks) = fold_joins names marks
fold_joins names (Item item ∷ marks) = fold_joins (names_with names item.key item.body) marks ∙ joined_one names item (items_met marks)
fold_joins names (Left fault ∷ marks) = fold_joins names marks

-- what a tour of a tree leaves is what the items that it met hold
pub names_law : NamesLaw
names_law tree dirid marks = fold_joins (no_names tree dirid) marks

-- what a tour of the root tree leaves
abbrev root_refs_of : List TreeItem → List NamedSubvolume
root_refs_of items = flat_map (λ (item : TreeItem). root_refs_in item.key item.body) items

-- the names in the ROOT_BACKREFs among some items
abbrev root_backrefs_of : List TreeItem → List NamedSubvolume
root_backrefs_of items = flat_map (λ (item : TreeItem). root_backrefs_in item.key item.body) items

-- names of subvolumes, and those in some items
abbrev named : Subvolumes → List TreeItem → Subvolumes
named names items = record { refs = names.refs ++ root_refs_of items; backrefs = names.backrefs ++ root_backrefs_of items; entries = names.entries }

-- a tour of the root tree adds to the names of subvolumes those in the items that it met
fold_names : (names : Subvolumes) (marks : List Mark) → fold subvolumes_step names marks ≡ named names (items_met marks)
fold_names names [] = λ i. record { refs = (sym (append-nil names.refs)) i; backrefs = (sym (append-nil names.backrefs)) i; entries = names.entries }
fold_names names (Block place block ∷ marks) = fold_names names marks
fold_names names (Child addr place ∷ marks) = fold_names names marks
fold_names names (Item item ∷ marks) =
    fold_names (subvolumes_with names item.key item.body) marks
    ∙ (λ i. record {
      refs = append_assoc names.refs (root_refs_in item.key item.body) (root_refs_of (items_met marks)) i;
      backrefs = append_assoc names.backrefs (root_backrefs_in item.key item.body) (root_backrefs_of (items_met marks)) i;
      entries = names.entries;
    })
fold_names names (Left fault ∷ marks) = fold_names names marks

-- a tour of the root tree leaves the names of subvolumes in the items that it met
pub subvolumes_law : SubvolumesLaw
subvolumes_law marks = fold_names no_subvolumes marks
