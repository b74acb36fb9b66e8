-- The features of a filesystem: what the bits of a superblock's fields are
-- called. No bit of the field compat has a name.
-- The format is described at https://btrfs.readthedocs.io/en/latest/dev/On-disk-format.html
use Rattle.std.specs.Prelude.{ℕ, List, [], ◌∷◌, codes}

-- those that only a writer has to know
abbrev pub compat_ro_names : List (List ℕ × ℕ)
compat_ro_names =
    (codes "FREE_SPACE_TREE", 0x1) ∷ (codes "FREE_SPACE_TREE_VALID", 0x2) ∷ (codes "VERITY", 0x4) ∷ (codes "BLOCK_GROUP_TREE", 0x8) ∷ []

-- those that a reader has to know
abbrev pub incompat_names : List (List ℕ × ℕ)
incompat_names =
    (codes "MIXED_BACKREF", 0x1) ∷ (codes "DEFAULT_SUBVOL", 0x2) ∷ (codes "MIXED_GROUPS", 0x4) ∷ (codes "COMPRESS_LZO", 0x8)
    ∷ (codes "COMPRESS_ZSTD", 0x10) ∷ (codes "BIG_METADATA", 0x20) ∷ (codes "EXTENDED_IREF", 0x40) ∷ (codes "RAID56", 0x80)
    ∷ (codes "SKINNY_METADATA", 0x100) ∷ (codes "NO_HOLES", 0x200) ∷ (codes "METADATA_UUID", 0x400) ∷ (codes "RAID1C34", 0x800)
    ∷ (codes "ZONED", 0x1000) ∷ (codes "EXTENT_TREE_V2", 0x2000) ∷ (codes "RAID_STRIPE_TREE", 0x4000) ∷ (codes "SIMPLE_QUOTA", 0x10000) ∷ []
