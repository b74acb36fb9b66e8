-- The entries of directories, and the names that inodes have.
use Rattle.std.specs.Prelude.{ℕ, List}
use Rattle.btr_base.specs.declared.key.Key.{Key}
use Rattle.btr_check_names.specs.declared.dir_entry.DirEntry.{DirEntry}
use Rattle.btr_check_names.specs.declared.dir_entry.Target.{Target}
use Rattle.btr_check_names.specs.declared.link_name.LinkName.{LinkName}

-- an entry: its directory, its item's offset (the entry's index, or the hash of its name), and
-- where it leads, of which kind, by which name
pub record Entry : Type 0 where
  pub dir : ℕ
  pub offset : ℕ
  pub location : Key
  pub kind : ℕ
  pub name : List ℕ

-- a reference of an inode: the directory that has it, at which index, by which name
pub record NameRef : Type 0 where
  pub inode : ℕ
  pub parent : ℕ
  pub index : ℕ
  pub name : List ℕ

-- the key where an entry leads
abbrev pub location_of : Target → Key
location_of target = record { objectid = target.objectid; kind = target.kind; offset = target.offset }

-- what an entry in memory says
abbrev pub entry_of : DirEntry → Entry
entry_of entry = record { dir = entry.dir; offset = entry.offset; location = location_of entry.target; kind = entry.kind; name = entry.name.now }

-- what a reference in memory says
abbrev pub ref_of : LinkName → NameRef
ref_of link = record { inode = link.inode; parent = link.parent; index = link.index; name = link.name.now }
