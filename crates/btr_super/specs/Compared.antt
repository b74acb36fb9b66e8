-- What superblocks of one commit have alike, on all of its images.
use Rattle.std.specs.Prelude.{◌≡◌, ℕ, ◌+◌, ◌<◌, Bool, ◌&&◌, ◌==◌, not, if◌then◌else◌, List, [], ◌∷◌, length, Option, Some, None, Ok}
use Rattle.std.specs.List.{All}
use Rattle.std.specs.Str.{bytes_eq}
use Rattle.btr_base.specs.Field.{bytes_at}
use Rattle.btr_super.specs.Super.{superblock}
use Rattle.btr_super.specs.declared.superblock.Super.{Super}

-- the numbers that are compared: all but bytenr, those of the log tree, whose root a power cut may
-- leave on one image alone, and the device's
abbrev pub numbers : Super → List ℕ
numbers s =
    s.flags ∷ s.generation ∷ s.root ∷ s.chunk_root ∷ s.total_bytes ∷ s.bytes_used ∷ s.root_dir ∷ s.num_devices ∷ s.sectorsize ∷ s.nodesize
    ∷ s.leafsize ∷ s.stripesize ∷ s.sys_chunk_array_size ∷ s.chunk_root_generation ∷ s.compat ∷ s.compat_ro ∷ s.incompat ∷ s.csum_type
    ∷ s.root_level ∷ s.chunk_root_level ∷ s.cache_generation ∷ s.uuid_tree_generation ∷ []

-- two superblocks have the same in all that is compared
abbrev pub is_same : Super → Super → Bool
is_same a b =
    bytes_eq (numbers a) (numbers b) && bytes_eq a.fsid b.fsid && bytes_eq a.label b.label && bytes_eq a.metadata_uuid b.metadata_uuid
    && bytes_eq a.reserved b.reserved && bytes_eq a.array b.array && bytes_eq a.backups b.backups

-- the first slot, of those from one on, whose superblock is of the chosen one's generation and isn't the same
abbrev pub diverged_from : ℕ → Super → List Super → Option ℕ
diverged_from slot chosen [] = None
diverged_from slot chosen (s ∷ supers) =
    if (s.generation == chosen.generation) && not (is_same s chosen) then Some slot else diverged_from (slot + 1) chosen supers

-- two copies have the same n bytes from an offset
abbrev pub have_same : ℕ → ℕ → List ℕ → List ℕ → Bool
have_same n off xs ys = bytes_eq (bytes_at n off xs) (bytes_at n off ys)

-- all bytes but csum (32 at 0), bytenr (8 at 30h), log_root and what follows it (16 at 60h),
-- log_root_level (1 at c8h) and dev_item (98 at c9h)
abbrev pub are_same_copies : List ℕ → List ℕ → Bool
are_same_copies xs ys = have_same 16 0x20 xs ys && have_same 40 0x38 xs ys && have_same 88 0x70 xs ys && have_same 3797 0x12b xs ys

-- the 4096 bytes of a valid copy
pub record IsCopyOf (bytes : List ℕ) (s : Super) : Type 0 where
  pub whole : length bytes ≡ 4096
  pub small : All (λ b. b < 256) bytes
  pub place : ℕ
  pub valid : superblock bytes place ≡ Ok s

-- superblocks are the same exactly where these bytes of their copies are
abbrev pub SameByBytes : Type 0
SameByBytes = (xs ys : List ℕ) (a b : Super) → IsCopyOf xs a → IsCopyOf ys b → is_same a b ≡ are_same_copies xs ys
