-- What the bits of the fields of flags are called.
-- The format is described at https://btrfs.readthedocs.io/en/latest/dev/On-disk-format.html
use Rattle.std.specs.Prelude.{ℕ, List, [], ◌∷◌, codes}

-- those of an extent
abbrev pub extent_flag_names : List (List ℕ × ℕ)
extent_flag_names = (codes "DATA", 0x1) ∷ (codes "TREE_BLOCK", 0x2) ∷ (codes "FULL_BACKREF", 0x100) ∷ []

-- those of an inode
abbrev pub inode_flag_names : List (List ℕ × ℕ)
inode_flag_names =
    (codes "NODATASUM", 0x1) ∷ (codes "NODATACOW", 0x2) ∷ (codes "READONLY", 0x4) ∷ (codes "NOCOMPRESS", 0x8)
    ∷ (codes "PREALLOC", 0x10) ∷ (codes "SYNC", 0x20) ∷ (codes "IMMUTABLE", 0x40) ∷ (codes "APPEND", 0x80)
    ∷ (codes "NODUMP", 0x100) ∷ (codes "NOATIME", 0x200) ∷ (codes "DIRSYNC", 0x400) ∷ (codes "COMPRESS", 0x800)
    ∷ (codes "ROOT_ITEM_INIT", 0x8000_0000) ∷ []

-- those of a tree
abbrev pub root_flag_names : List (List ℕ × ℕ)
root_flag_names = (codes "RDONLY", 0x1) ∷ (codes "DEAD", 0x1_0000_0000_0000) ∷ []
