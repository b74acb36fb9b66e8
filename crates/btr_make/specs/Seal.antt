-- The checksum of a block in an image.
use Rattle.std.specs.Prelude.{◌≡◌, ◌⊎◌, ℕ, ◌+◌, ◌^◌, ◌<◌, ◌≤◌, List, length, slice_range, Option, None, Some, Result, Ok, Err}
use Rattle.std.specs.Int.{w32, to_le_bytes}
use Rattle.btr_base.specs.Crc.{crc32c, register}
use Rattle.btr_rack.specs.declared.error.PokeError.{PokeError}
use Rattle.btr_rack.specs.declared.error.PokeError.TheVariants.{NoImage, Range, Memory}
use Rattle.btr_rack.specs.Memory.{MemoryRack, named, Rewrites}
use Rattle.btr_make.specs.Shelf.{standing}

-- a number is the CRC-32C of the bytes of an image from one place to another, which lie in it
abbrev pub IsCrcOf : ℕ → Option (List ℕ) → ℕ → ℕ → Type 0
IsCrcOf crc None begin end = ⊥
IsCrcOf crc (Some image) begin end = (end ≤ length image) × (crc ≡ crc32c (slice_range image begin end))

-- the register of CRC-32C on the way to it, where the bytes from `at` on are left
abbrev pub IsRegisterAt : ℕ → Option (List ℕ) → ℕ → ℕ → ℕ → Type 0
IsRegisterAt reg None begin end at = at ≡ begin
IsRegisterAt reg (Some image) begin end at =
    ((at ≡ begin) ⊎ (at ≤ length image)) × (register reg (slice_range image at end) ≡ register 0xFFFFFFFF (slice_range image begin end))

-- the CRC-32C of what stands in the len bytes from an offset on, but for the first 32
abbrev pub block_sum : List ℕ → ℕ → ℕ → List ℕ
block_sum image off len = to_le_bytes w32 (crc32c (slice_range image (off + 32) (off + len)))

-- nothing was written
pub record IsUntouched (old new : MemoryRack) : Type 0 where
  pub images : (name : List ℕ) → named new name ≡ named old name
  pub standing : standing new ≡ standing old

-- What `seal` does: the sum stands at the block's beginning, and nothing else changed. Where it is refused nothing was
-- written but, for want of memory, some of the 4 bytes. No image is as long as 2^64.
abbrev pub Seals : {T : Type 0} → List ℕ → ℕ → ℕ → MemoryRack → MemoryRack → Result T PokeError → Type 0
Seals name off len old new (Ok _) =
    (image : List ℕ) × (named old name ≡ Some image) × (off + len ≤ length image) × Rewrites name off (block_sum image off len) old new
Seals name off len old new (Err NoImage) = (named old name ≡ None) × IsUntouched old new
Seals name off len old new (Err Range) =
    (image : List ℕ) × (named old name ≡ Some image) × ((length image < off + len) ⊎ (2 ^ 64 ≤ off + len)) × IsUntouched old new
Seals name off len old new (Err Memory) = (some : List ℕ) × (length some ≤ 4) × Rewrites name off some old new
