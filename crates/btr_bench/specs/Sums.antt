-- What the kernels of checksums compute.
use Rattle.std.specs.Prelude.{ℕ, List, take}
use Rattle.std.specs.Int.{w64, from_be_bytes}
use Rattle.btr_base.specs.Crc.{crc32c}
use Rattle.btr_base.specs.Sum.{checksum}
use Rattle.btr_base.specs.declared.kind.SumKind.TheVariants.{Sha256}
use Rattle.btr_base.specs.Xxh64.{hash64}

-- CRC-32C
abbrev pub crc_result : List ℕ → ℕ
crc_result piece = crc32c piece

-- xxhash64
abbrev pub xxh64_result : List ℕ → ℕ
xxh64_result piece = hash64 piece

-- the first 8 bytes, the first of them highest
abbrev pub sha256_result : List ℕ → ℕ
sha256_result piece = from_be_bytes w64 (take 8 (checksum Sha256 piece))
