-- The bytes of a superblock copy: the table of its fields, in their order.
use Rattle.std.specs.Prelude.{ℕ, List, [], ◌∷◌, ◌++◌, replicate, Option, Some, None}
use Rattle.std.specs.Int.{w16, w32, w64, to_le_bytes}
use Rattle.btr_base.specs.Sum.{kind_of_type, sum_of}
use Rattle.btr_base.specs.declared.kind.SumKind.{SumKind}
use Rattle.btr_super.specs.Super.{magic}
use Rattle.btr_super.specs.declared.superblock.Super.{Super}

-- bytes without a field
unfoldable pub zeros : ℕ → List ℕ
zeros n = replicate n 0

-- a number of 8 bytes
unfoldable pub number_u64 : ℕ → List ℕ
number_u64 n = to_le_bytes w64 n

-- a number of 4 bytes
unfoldable pub number_u32 : ℕ → List ℕ
number_u32 n = to_le_bytes w32 n

-- a number of 2 bytes
unfoldable pub number_u16 : ℕ → List ℕ
number_u16 n = to_le_bytes w16 n

-- from 20h: whose copy this is, where it stands, and when it was written
unfoldable pub ids : Super → ℕ → List ℕ
ids s place = s.fsid ++ number_u64 place ++ number_u64 s.flags ++ magic ++ number_u64 s.generation

-- from 50h: where the trees begin
unfoldable pub roots : Super → List ℕ
roots s = number_u64 s.root ++ number_u64 s.chunk_root ++ number_u64 s.log_root ++ zeros 8

-- from 70h: how much there is
unfoldable pub sizes : Super → List ℕ
sizes s = number_u64 s.total_bytes ++ number_u64 s.bytes_used ++ number_u64 s.root_dir ++ number_u64 s.num_devices

-- from 90h: the sizes of blocks and of the system array
unfoldable pub geometry : Super → List ℕ
geometry s =
    number_u32 s.sectorsize ++ number_u32 s.nodesize ++ number_u32 s.leafsize ++ number_u32 s.stripesize
    ++ number_u32 s.sys_chunk_array_size ++ number_u64 s.chunk_root_generation

-- from ach: features, the checksum type, and the levels of the roots
unfoldable pub features : Super → List ℕ
features s =
    number_u64 s.compat ++ number_u64 s.compat_ro ++ number_u64 s.incompat ++ number_u16 s.csum_type
    ++ (s.root_level ∷ s.chunk_root_level ∷ s.log_root_level ∷ [])

-- from c9h: the device that this image holds
unfoldable pub device : Super → List ℕ
device s = number_u64 s.devid ++ zeros 58 ++ s.dev_uuid ++ zeros 16

-- from 12bh: the label, and the id in the headers of tree blocks
unfoldable pub names : Super → List ℕ
names s = s.label ++ number_u64 s.cache_generation ++ number_u64 s.uuid_tree_generation ++ s.metadata_uuid ++ s.reserved

-- from 32bh: the system array and the backup roots, to the copy's end
unfoldable pub chunks : Super → List ℕ
chunks s = s.array ++ s.backups

-- what the checksum covers
unfoldable pub super_body : Super → ℕ → List ℕ
super_body s place = ids s place ++ roots s ++ sizes s ++ geometry s ++ features s ++ device s ++ names s ++ chunks s

-- the 32 bytes of the checksum of what is behind them, of a kind that is supported or of none
abbrev pub sum_before : Option SumKind → List ℕ → List ℕ
sum_before None body = zeros 32
sum_before (Some kind) body = (sum_of kind body).bytes

-- the 4096 bytes of the copy that stands at a place
unfoldable pub super_copy : Super → ℕ → List ℕ
super_copy s place = sum_before (kind_of_type s.csum_type) (super_body s place) ++ super_body s place
