-- What holds of every rack in memory.
use Rattle.std.specs.Prelude.{◌≡◌, ℕ, ◌+◌, ◌-◌, ◌%◌, ◌<◌, List, [], ◌∷◌, length, map, take, All, refl}
use Rattle.std.specs.List.{range_with_len}
use Rattle.std.proofs.Common.{zero, suc, arith}
use Rattle.std.proofs.lemmas.List.Elements.{All-cons}
use Rattle.std.proofs.lemmas.List.FromFn.{length-map-range_with_len}
use Rattle.btr_rack.specs.Rack.{IsRack}
use Rattle.btr_rack.specs.Image.{MemoryImage, Pages, bytes_in, kept_byte, page_byte}
use Rattle.btr_rack.specs.CallsLaws.{count_left}
use Rattle.btr_rack.specs.Memory.{MemoryRack, seen_of, fails_nothing}

-- each open image has as many bytes as its slot says
sized : (images : List MemoryImage) → map length (map bytes_in images) ≡ map (λ slot. slot.len) (map (λ image. image.slot) images)
sized [] = refl
sized (image ∷ images) = λ i. length-map-range_with_len (page_byte image.pages) 0 image.slot.len i ∷ sized images i

-- what a division by 256 leaves is below 256
below : (n : ℕ) → n % 256 < 256
below n = omega arith

-- the bytes of a range of pages are below 256
small : (pages : Pages) (from len : ℕ) → All (λ b. b < 256) (map (page_byte pages) (range_with_len from len))
small pages from zero = λ k d lt. absurd (omega arith)
small pages from (suc len) =
    All-cons (λ b. b < 256) (page_byte pages from) (map (page_byte pages) (range_with_len (from + 1) len)) (below (kept_byte pages from))
    (small pages (from + 1) len)

-- all bytes of the images are below 256
bytes : (images : List MemoryImage) → All (All (λ b. b < 256)) (map bytes_in images)
bytes [] = λ k d lt. absurd (omega arith)
bytes (image ∷ images) =
    All-cons (All (λ b. b < 256)) (bytes_in image) (map bytes_in images) (small image.pages 0 image.slot.len) (bytes images)

-- what is seen of a rack in memory
pub sound_rack : (rack : MemoryRack) → IsRack (seen_of rack)
sound_rack rack = record {
  sized = sized (take rack.opened rack.images);
  bytes = bytes (take rack.opened rack.images);
  count_left = count_left (fails_nothing rack.failing) rack.account.faults;
}
