-- The checksums of blocks and sectors, as they are stored.
use Rattle.std.specs.Prelude.{ℕ, ◌-◌, Bool, List, ◌++◌, take, drop, replicate, Option, Some, None, if◌then◌else◌, ◌==◌}
use Rattle.std.specs.Str.{bytes_eq}
use Rattle.byteorder.specs.Endian.{little_bytes}
use Rattle.sha2.specs.Sha256.{sha256}
use Rattle.btr_base.specs.Crc.{crc32c}
use Rattle.btr_base.specs.Xxh64.{hash64}
use Rattle.btr_base.specs.declared.stored.Sum.{Sum}
use Rattle.btr_base.specs.declared.kind.SumKind.{SumKind}
use Rattle.btr_base.specs.declared.kind.SumKind.TheVariants.{Crc32c, Sha256, Xxh64}

-- the kind of checksum that a checksum type names
abbrev pub kind_of_type : ℕ → Option SumKind
kind_of_type n = if n == 0 then Some Crc32c else if n == 1 then Some Xxh64 else if n == 2 then Some Sha256 else None

-- how many bytes a checksum has
abbrev pub sum_size : SumKind → ℕ
sum_size Crc32c = 4
sum_size Sha256 = 32
sum_size Xxh64 = 8

-- the checksum of bytes, as it is stored: numbers are little-endian
abbrev pub checksum : SumKind → List ℕ → List ℕ
checksum Crc32c bytes = little_bytes 4 (crc32c bytes)
checksum Sha256 bytes = sha256 bytes
checksum Xxh64 bytes = little_bytes 8 (hash64 bytes)

-- the sum that has these bytes, and zeros behind them
abbrev pub sum_from : SumKind → List ℕ → Sum
sum_from kind bytes = record { bytes = bytes ++ replicate (32 - sum_size kind) 0; size = sum_size kind }

-- the sum of bytes
abbrev pub sum_of : SumKind → List ℕ → Sum
sum_of kind bytes = sum_from kind (checksum kind bytes)

-- the sum that is stored at the beginning of bytes
abbrev pub stored_sum : SumKind → List ℕ → Sum
stored_sum kind bytes = sum_from kind (take (sum_size kind) bytes)

-- the checksum at the beginning of a superblock or a tree block is that of its bytes from 32 on
abbrev pub is_summed : SumKind → List ℕ → Bool
is_summed kind bytes = bytes_eq (stored_sum kind bytes).bytes (sum_of kind (drop 32 bytes)).bytes
