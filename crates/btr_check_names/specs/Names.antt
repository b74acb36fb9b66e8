-- The names, inodes and entries of one tree of files.
use Rattle.std.specs.Prelude.{◌≡◌, ℕ, ◌*◌, ◌-◌, ◌^◌, ◌==◌, ◌&&◌, ◌||◌, not, Bool, bit_and, List, [], ◌∷◌, ◌++◌, length, map, filter, filter_map, flat_map}
use Rattle.std.specs.Prelude.{fold, sum_by, count_by, cond, Option, if◌then◌else◌}
use Rattle.std.specs.List.{list_any}
use Rattle.std.specs.Str.{bytes_eq}
use Rattle.btr_base.specs.Crc.{hash_of}
use Rattle.btr_base.specs.declared.key.Key.{Key}
use Rattle.btr_items.specs.declared.inode.Inode.{Inode}
use Rattle.btr_items.specs.Types.{inode_item}
use Rattle.btr_tour.specs.Tour.{Mark, Block, Child, Item, Left, items_met}
use Rattle.btr_walk.specs.Le.{TreeItem}
use Rattle.btr_findings.specs.declared.finding.Finding.{Finding}
use Rattle.btr_findings.specs.declared.kind.Kind.TheVariants as kind
use Rattle.btr_findings.specs.Findings.{found, unless, shown_sum}
use Rattle.btr_check_names.specs.declared.inode_at.InodeAt.{InodeAt}
use Rattle.btr_check_names.specs.Entry.{Entry, NameRef}
use Rattle.btr_check_names.specs.Items.{inodes_in, indexed_in, hashed_in, refs_in, orphans_in}

-- what a tree of files holds: inodes, the entries of DIR_INDEXes and those of DIR_ITEMs, the inodes'
-- references, and the inodes kept without a name
pub record Names : Type 0 where
  pub tree : ℕ
  pub dirid : ℕ
  pub inodes : List InodeAt
  pub indexed : List Entry
  pub hashed : List Entry
  pub refs : List NameRef
  pub orphans : List ℕ

-- what the items of a tree hold, whose first directory has this inode
abbrev pub names_in : ℕ → ℕ → List TreeItem → Names
names_in tree dirid items = record {
  tree = tree;
  dirid = dirid;
  inodes = flat_map (λ (item : TreeItem). inodes_in item.key item.body) items;
  indexed = flat_map (λ (item : TreeItem). indexed_in item.key item.body) items;
  hashed = flat_map (λ (item : TreeItem). hashed_in item.key item.body) items;
  refs = flat_map (λ (item : TreeItem). refs_in item.key item.body) items;
  orphans = flat_map (λ (item : TreeItem). orphans_in item.key) items;
}

-- what a tree holds before its items are met
abbrev pub no_names : ℕ → ℕ → Names
no_names tree dirid = record { tree = tree; dirid = dirid; inodes = []; indexed = []; hashed = []; refs = []; orphans = [] }

-- what a tree holds after one more item
abbrev pub names_with : Names → Key → List ℕ → Names
names_with names key body = record {
  tree = names.tree;
  dirid = names.dirid;
  inodes = names.inodes ++ inodes_in key body;
  indexed = names.indexed ++ indexed_in key body;
  hashed = names.hashed ++ hashed_in key body;
  refs = names.refs ++ refs_in key body;
  orphans = names.orphans ++ orphans_in key;
}

-- of what a tour meets, the items count
abbrev pub names_step : Names → Mark → Names
names_step names (Block place block) = names
names_step names (Child addr place) = names
names_step names (Item item) = names_with names item.key item.body
names_step names (Left fault) = names

-- what a tour of a tree leaves is what its items hold
abbrev pub NamesLaw : Type 0
NamesLaw = (tree dirid : ℕ) (marks : List Mark) → fold names_step (no_names tree dirid) marks ≡ names_in tree dirid (items_met marks)

-- two entries lead to the same: equal keys
abbrev pub same_location : Key → Key → Bool
same_location a b = (a.objectid == b.objectid) && (a.kind == b.kind) && (a.offset == b.offset)

-- two entries lead from one directory to the same, by one name
abbrev pub same_entry : Entry → Entry → Bool
same_entry a b = (a.dir == b.dir) && same_location a.location b.location && (a.kind == b.kind) && bytes_eq a.name b.name

-- two entries lead from one directory to the same, by one name, and stand at one place
abbrev pub is_entry : Entry → Entry → Bool
is_entry a b = (a.offset == b.offset) && same_entry a b

-- an entry as it is to stand in a DIR_ITEM: under the hash of its name
abbrev pub under_hash : Entry → Entry
under_hash entry = record entry { offset = hash_of entry.name }

-- an entry leads to an inode of the tree itself
abbrev pub leads_to_inode : Entry → Bool
leads_to_inode entry = entry.location.kind == inode_item

-- the reference that an entry asks for
abbrev pub ref_to : Entry → NameRef
ref_to entry = record { inode = entry.location.objectid; parent = entry.dir; index = entry.offset; name = entry.name }

-- the references that some entries ask for: those that lead to inodes
abbrev pub asked : List Entry → List NameRef
asked entries = map ref_to (filter leads_to_inode entries)

-- two references are of one inode in one directory, by one index and one name
abbrev pub same_ref : NameRef → NameRef → Bool
same_ref a b = (a.inode == b.inode) && (a.parent == b.parent) && (a.index == b.index) && bytes_eq a.name b.name

-- the kind of a file in its mode
abbrev pub mode_of_kind : ℕ → ℕ
mode_of_kind kind =
    if kind == 1 then 0o100000
    else if kind == 2 then 0o040000
    else if kind == 3 then 0o020000
    else if kind == 4 then 0o060000
    else if kind == 5 then 0o010000
    else if kind == 6 then 0o140000
    else 0o120000

-- the kind of a file that an inode's mode has
abbrev pub format_of : Inode → ℕ
format_of inode = bit_and inode.mode 0o170000

-- an inode is the one that an entry leads to, of its kind
abbrev pub fits_mode : Entry → InodeAt → Bool
fits_mode entry at = (entry.location.objectid == at.number) && (mode_of_kind entry.kind == format_of at.inode)

-- the reference of the first directory to itself has no entry
abbrev pub is_free : ℕ → NameRef → Bool
is_free dirid ref = (ref.inode == dirid) && (ref.parent == dirid) && bytes_eq ref.name (46 ∷ 46 ∷ [])

-- how many references an inode has
abbrev pub links_of : List NameRef → ℕ → ℕ
links_of refs number = count_by (λ (ref : NameRef). ref.inode == number) refs

-- how long the names in a directory are, each counted twice
abbrev pub names_size : List Entry → ℕ → ℕ
names_size indexed dir = sum_by (λ (entry : Entry). cond (entry.dir == dir) (2 * length entry.name) 0) indexed

-- the inode that an entry leads to has its reference, if it leads to one
abbrev pub ref_kept : List NameRef → Entry → Bool
ref_kept refs entry = not (leads_to_inode entry) || list_any (same_ref (ref_to entry)) refs

-- the inode that an entry leads to is there and of the entry's kind, if it leads to one
abbrev pub mode_kept : List InodeAt → Entry → Bool
mode_kept inodes entry = not (leads_to_inode entry) || list_any (fits_mode entry) inodes

-- a number is one of these
abbrev pub is_among : List ℕ → ℕ → Bool
is_among numbers one = list_any (λ number. one == number) numbers

-- an inode has links, or is an orphan
abbrev pub orphan_kept : List ℕ → InodeAt → Bool
orphan_kept orphans at = not (at.inode.nlink == 0) || is_among orphans at.number

-- a directory without links
abbrev pub is_unlinked : InodeAt → Bool
is_unlinked at = (format_of at.inode == 0o040000) && (at.inode.nlink == 0)

-- a directory that is being removed: it has no links, and an orphan item names it
abbrev pub is_removed : List ℕ → InodeAt → Bool
is_removed orphans at = is_unlinked at && is_among orphans at.number

-- the numbers of such directories
abbrev pub removed_dirs : List ℕ → List InodeAt → List ℕ
removed_dirs orphans inodes = map (λ (at : InodeAt). at.number) (filter (is_removed orphans) inodes)

-- an inode states this many references; minus 12 is the number of the old inode cache, which is no inode
abbrev pub has_links : InodeAt → ℕ → Bool
has_links at links = (at.number == 2 ^ 64 - 12) || (at.inode.nlink == links)

-- a directory has this size
abbrev pub has_size : InodeAt → ℕ → Bool
has_size at size = not (format_of at.inode == 0o040000) || (at.inode.size == size)

-- 15 to 17 and 19 don't speak of entries of the directories that are being removed, which their list of
-- numbers has; that of 21 and 22 has the orphans.
module _ (tree : ℕ) where
  -- the directory has the entry under its name's hash too
  abbrev pub entry_item : List ℕ → List Entry → Entry → Option Finding
  entry_item removed hashed entry =
      unless (is_among removed entry.dir || list_any (is_entry (under_hash entry)) hashed) (found kind.EntryItem (tree ∷ entry.dir ∷ entry.offset ∷ []))

  -- an entry stands as one at an index is to, under its name's hash
  abbrev pub entry_index : List ℕ → List Entry → Entry → Option Finding
  entry_index removed indexed entry =
      unless (is_among removed entry.dir || list_any (is_entry entry) (map under_hash indexed)) (found kind.EntryIndex (tree ∷ entry.dir ∷ entry.offset ∷ []))

  -- the inode that an entry leads to has its reference
  abbrev pub entry_ref : List ℕ → List NameRef → Entry → Option Finding
  entry_ref removed refs entry = unless (is_among removed entry.dir || ref_kept refs entry) (found kind.EntryRef (tree ∷ entry.dir ∷ entry.offset ∷ []))

  -- a reference has its entry
  abbrev pub ref_entry : ℕ → List Entry → NameRef → Option Finding
  ref_entry dirid indexed ref =
      unless (is_free dirid ref || list_any (same_ref ref) (asked indexed)) (found kind.RefEntry (tree ∷ ref.inode ∷ ref.parent ∷ ref.index ∷ []))

  -- the inode that an entry leads to is there, and of the entry's kind
  abbrev pub entry_mode : List ℕ → List InodeAt → Entry → Option Finding
  entry_mode removed inodes entry = unless (is_among removed entry.dir || mode_kept inodes entry) (found kind.EntryMode (tree ∷ entry.dir ∷ entry.offset ∷ []))

  -- an inode states how many references it has
  abbrev pub link_count : List NameRef → InodeAt → Option Finding
  link_count refs at =
      unless (has_links at (links_of refs at.number)) (found kind.LinkCount (tree ∷ at.number ∷ at.inode.nlink ∷ shown_sum (links_of refs at.number) ∷ []))

  -- a directory is as large as the names in it, twice, unless it is being removed
  abbrev pub dir_size : List ℕ → List Entry → InodeAt → Option Finding
  dir_size orphans indexed at =
      unless (is_removed orphans at || has_size at (names_size indexed at.number))
      (found kind.DirSize (tree ∷ at.number ∷ at.inode.size ∷ shown_sum (names_size indexed at.number) ∷ []))

  -- an inode without links is an orphan
  abbrev pub orphan : List ℕ → InodeAt → Option Finding
  orphan orphans at = unless (orphan_kept orphans at) (found kind.Orphan (tree ∷ at.number ∷ []))

-- what is wrong with names, where these directories are being removed
abbrev pub findings_but : List ℕ → Names → List Finding
findings_but removed names =
    filter_map (entry_item names.tree removed names.hashed) names.indexed
    ++ filter_map (entry_index names.tree removed names.indexed) names.hashed
    ++ filter_map (entry_ref names.tree removed names.refs) names.indexed
    ++ filter_map (ref_entry names.tree names.dirid names.indexed) names.refs
    ++ filter_map (entry_mode names.tree removed names.inodes) names.indexed
    ++ filter_map (link_count names.tree names.refs) names.inodes
    ++ filter_map (dir_size names.tree names.orphans names.indexed) names.inodes
    ++ filter_map (orphan names.tree names.orphans) names.inodes

-- what is wrong with the names of a tree
abbrev pub names_findings : Names → List Finding
names_findings names = findings_but (removed_dirs names.orphans names.inodes) names
