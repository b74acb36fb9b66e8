-- What a superblock is, by the table of its fields.
use Rattle.std.specs.Prelude.{ℕ, not, if◌then◌else◌, ◌==◌, List, [], ◌∷◌, slice_index, Option, Some, None, Result, Ok, Err}
use Rattle.std.specs.Str.{bytes_eq}
use Rattle.btr_base.specs.Field.{number_at, bytes_at}
use Rattle.btr_base.specs.Sum.{kind_of_type, is_summed}
use Rattle.btr_base.specs.declared.kind.SumKind.{SumKind as Kind}
use Rattle.btr_super.specs.declared.superblock.Super.{Super}
use Rattle.btr_super.specs.declared.fault.SuperFault.{SuperFault}
use Rattle.btr_super.specs.declared.fault.SuperFault.TheVariants.{Magic, Place, SumKind, Sum}

-- the fields
unfoldable pub super_of : List ℕ → Super
super_of bytes = record {
  fsid = bytes_at 16 0x20 bytes;
  place = number_at 8 0x30 bytes;
  flags = number_at 8 0x38 bytes;
  generation = number_at 8 0x48 bytes;
  root = number_at 8 0x50 bytes;
  chunk_root = number_at 8 0x58 bytes;
  log_root = number_at 8 0x60 bytes;
  total_bytes = number_at 8 0x70 bytes;
  bytes_used = number_at 8 0x78 bytes;
  root_dir = number_at 8 0x80 bytes;
  num_devices = number_at 8 0x88 bytes;
  sectorsize = number_at 4 0x90 bytes;
  nodesize = number_at 4 0x94 bytes;
  leafsize = number_at 4 0x98 bytes;
  stripesize = number_at 4 0x9c bytes;
  sys_chunk_array_size = number_at 4 0xa0 bytes;
  chunk_root_generation = number_at 8 0xa4 bytes;
  compat = number_at 8 0xac bytes;
  compat_ro = number_at 8 0xb4 bytes;
  incompat = number_at 8 0xbc bytes;
  csum_type = number_at 2 0xc4 bytes;
  root_level = slice_index bytes 0xc6;
  chunk_root_level = slice_index bytes 0xc7;
  log_root_level = slice_index bytes 0xc8;
  devid = number_at 8 0xc9 bytes;
  dev_uuid = bytes_at 16 0x10b bytes;
  label = bytes_at 256 0x12b bytes;
  cache_generation = number_at 8 0x22b bytes;
  uuid_tree_generation = number_at 8 0x233 bytes;
  metadata_uuid = bytes_at 16 0x23b bytes;
  reserved = bytes_at 224 0x24b bytes;
  array = bytes_at 2048 0x32b bytes;
  backups = bytes_at 1237 0xb2b bytes;
}

-- `_BHRfS_M`
abbrev pub magic : List ℕ
magic = 0x5f ∷ 0x42 ∷ 0x48 ∷ 0x52 ∷ 0x66 ∷ 0x53 ∷ 0x5f ∷ 0x4d ∷ []

-- a copy whose checksums are of this kind, or of none that is supported
abbrev pub summed : Option Kind → List ℕ → Result Super SuperFault
summed None bytes = Err (SumKind (number_at 2 0xc4 bytes))
summed (Some kind) bytes = if is_summed kind bytes then Ok (super_of bytes) else Err Sum

-- the superblock that stands in these 4096 bytes at a place of the image, or the first reason why there is none
unfoldable pub superblock : List ℕ → ℕ → Result Super SuperFault
superblock bytes place =
    if not (bytes_eq (bytes_at 8 0x40 bytes) magic) then Err Magic
    else if not (number_at 8 0x30 bytes == place) then Err Place
    else summed (kind_of_type (number_at 2 0xc4 bytes)) bytes
