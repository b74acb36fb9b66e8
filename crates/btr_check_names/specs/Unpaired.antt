-- What of the names in a tree of files has not met its counterpart yet, one item after another.
use Rattle.std.specs.Prelude.{◌≡◌, ℕ, Bool, true, false, ◌&&◌, ◌||◌, List, [], ◌∷◌, ◌++◌, fold, filter}
use Rattle.btr_base.specs.declared.key.Key.{Key}
use Rattle.btr_tour.specs.Tour.{Mark, Block, Child, Item, Left, items_met}
use Rattle.btr_check_names.specs.declared.inode_at.InodeAt.{InodeAt}
use Rattle.btr_check_names.specs.declared.unpaired.Unpaired.{Unpaired}
use Rattle.btr_check_names.specs.Entry.{Entry, NameRef}
use Rattle.btr_check_names.specs.Halves.{asked_half, hash_half, index_half, meets, ref_half, sided}
use Rattle.btr_check_names.specs.Inodes.{no_inodes, begun, hashed, linked, named, released, is_gone, last_format, are_settled}
use Rattle.btr_check_names.specs.Items.{inodes_in, indexed_in, hashed_in, refs_in, orphans_in}
use Rattle.btr_check_names.specs.Names.{names_in, names_findings}
use Rattle.btr_check_names.specs.Pairs.{no_pairs, are_met}
use Rattle.btr_check_names.specs.Settled.{AreSettled}
use Rattle.btr_check_names.specs.Subvolumes.{leads_to_root}

-- no item came yet
abbrev pub nothing_unpaired : ℕ → Unpaired
nothing_unpaired dirid = record { dirid = dirid; is_turned = false; inodes = no_inodes; entries = no_pairs; links = no_pairs; subvolumes = [] }

-- an inode comes
abbrev pub with_inode : Unpaired → InodeAt → Unpaired
with_inode u at = record {
  dirid = u.dirid;
  is_turned = u.is_turned;
  inodes = begun u.inodes at;
  entries = u.entries;
  links = u.links;
  subvolumes = u.subvolumes;
}

-- what hasn't met its counterpart after an entry at an index
abbrev pub with_indexed : Unpaired → Entry → Unpaired
with_indexed u entry = record {
  dirid = u.dirid;
  is_turned = u.is_turned;
  inodes = named u.inodes entry.dir entry.name;
  entries = meets u.entries (index_half (u.is_turned || is_gone entry.dir u.inodes.last) entry);
  links = meets u.links (sided u.is_turned (asked_half (is_gone entry.dir u.inodes.last) entry));
  subvolumes = u.subvolumes ++ filter leads_to_root (entry ∷ []);
}

-- what hasn't met its counterpart after an entry under a hash
abbrev pub with_hashed : Unpaired → Entry → Unpaired
with_hashed u entry = record {
  dirid = u.dirid;
  is_turned = u.is_turned;
  inodes = hashed u.inodes entry.dir;
  entries = meets u.entries (hash_half (u.is_turned || is_gone entry.dir u.inodes.last) entry);
  links = u.links;
  subvolumes = u.subvolumes;
}

-- what hasn't met its counterpart after a reference of an inode
abbrev pub with_ref : Unpaired → NameRef → Unpaired
with_ref u ref = record {
  dirid = u.dirid;
  is_turned = u.is_turned;
  inodes = linked u.inodes ref.inode;
  entries = u.entries;
  links = meets u.links (sided u.is_turned (ref_half u.dirid (last_format u.inodes.last) ref));
  subvolumes = u.subvolumes;
}

-- the number of an orphan
abbrev pub with_orphan : Unpaired → ℕ → Unpaired
with_orphan u number = record {
  dirid = u.dirid;
  is_turned = u.is_turned;
  inodes = released u.inodes number;
  entries = u.entries;
  links = u.links;
  subvolumes = u.subvolumes;
}

-- all that one item says
abbrev pub unpaired_with : Unpaired → Key → List ℕ → Unpaired
unpaired_with u key body =
    fold with_orphan (fold with_ref (fold with_hashed (fold with_indexed (fold with_inode u (inodes_in key body)) (indexed_in key body))
    (hashed_in key body)) (refs_in key body)) (orphans_in key)

-- of what a tour meets, the items count
abbrev pub unpaired_step : Unpaired → Mark → Unpaired
unpaired_step u (Block place block) = u
unpaired_step u (Child addr place) = u
unpaired_step u (Item item) = unpaired_with u item.key item.body
unpaired_step u (Left fault) = u

-- the inodes state what was counted, and their entries have met their counterparts
abbrev pub are_whole : Unpaired → Bool
are_whole u = are_settled u.inodes && are_met u.entries

-- all names have met their counterparts
abbrev pub are_paired : Unpaired → Bool
are_paired u = are_whole u && are_met u.links

-- from now on the items are those of a tree that this one is compared with: their links count on the other side, and the entries
-- needn't meet
abbrev pub compared : Unpaired → Unpaired
compared u = record { dirid = u.dirid; is_turned = true; inodes = no_inodes; entries = no_pairs; links = u.links; subvolumes = u.subvolumes }

-- what is kept of a tour of a tree whose first directory has this inode
abbrev pub unpaired_of : ℕ → List Mark → Unpaired
unpaired_of dirid marks = fold unpaired_step (nothing_unpaired dirid) marks

-- where a tour of a tree leaves all names paired they are settled, and nothing is wrong with them; and
-- the entries that lead to subvolumes are kept
pub record KeepsSubvolumes (tree dirid : ℕ) (marks : List Mark) : Type 0 where
  pub settled : are_paired (unpaired_of dirid marks) ≡ true → AreSettled (names_in tree dirid (items_met marks))
  pub sound : are_paired (unpaired_of dirid marks) ≡ true → names_findings (names_in tree dirid (items_met marks)) ≡ []
  pub subvolumes : (unpaired_of dirid marks).subvolumes ≡ filter leads_to_root (names_in tree dirid (items_met marks)).indexed

-- what a tour of a tree leaves says whether its names are sound, whatever the tour met
abbrev pub UnpairedLaw : Type 0
UnpairedLaw = (tree dirid : ℕ) (marks : List Mark) → KeepsSubvolumes tree dirid marks
