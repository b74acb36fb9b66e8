-- What writes leave of the images, and where scrub writes.
use Rattle.std.specs.Prelude.{◌≡◌, ◌⊎◌, ℕ, ◌+◌, ◌≤◌, false, List, [], ◌∷◌, length, map, IfSome}
use Rattle.std.specs.List.{fold, list_any, All, Any}
use Rattle.btr_rack.specs.Rack.{Seen, image_of}
use Rattle.btr_rack.specs.declared.place.Place.{Place as Range}
use Rattle.btr_chunk.specs.Chunk.{stripe_length}
use Rattle.btr_chunk.specs.declared.chunk.Chunk.{Chunk}
use Rattle.btr_read.specs.Candidates.{range_on}
use Rattle.btr_read.specs.Cause.{LiesIn}
use Rattle.btr_read.specs.Layout.{Layout, device_in}
use Rattle.btr_scrub.specs.Repair.{byte_at, covers}
use Rattle.btr_scrub_copies.specs.Turns.{WaitsAt}
use Rattle.btr_scrub_copies.specs.Writes.{Images, Write, write_on}

-- images differ in some ranges at most
pub record KeepsOutside (ranges : List Range) (old new : Images) : Type 0 where
  pub count : length new ≡ length old
  pub lengths : (slot : ℕ) → length (image_of new slot) ≡ length (image_of old slot)
  pub bytes : (slot off : ℕ) → list_any (covers slot off) ranges ≡ false → byte_at new slot off ≡ byte_at old slot off

-- a range lies in a stripe of this chunk
abbrev pub LiesInChunk : Layout → Chunk → Range → Type 0
LiesInChunk layout chunk range =
    Any (λ stripe. IfSome (range_on stripe.offset (stripe_length chunk) (device_in layout.devices stripe.devid)) (LiesIn range)) chunk.stripes

-- a range lies in a stripe of a chunk
abbrev pub LiesInStripe : Layout → Range → Type 0
LiesInStripe layout range = Any (λ chunk. LiesInChunk layout chunk range) layout.chunks

-- a layout with one of its chunks alone
abbrev pub alone : Layout → Chunk → Layout
alone layout chunk = record layout { chunks = chunk ∷ [] }

-- what waits for a sync behind a call waited before, or all of it that didn't lies in stripes of one chunk
abbrev pub WaitsInOne : Layout → Seen → Seen → Type 0
WaitsInOne layout old new = WaitsAt (λ range. ⊥) old new ⊎ Any (λ chunk. WaitsAt (LiesInChunk layout chunk) old new) layout.chunks

-- a write fits the images: it has as many bytes as its range, and the range lies in its image
pub record Fits (images : Images) (write : Write) : Type 0 where
  pub long : length write.bytes ≡ write.range.len
  pub within : write.range.off + write.range.len ≤ length (image_of images write.range.slot)

-- writes that fit change nothing but their ranges
abbrev pub WritesKeepTheRest : Type 0
WritesKeepTheRest = (images : Images) (writes : List Write) → All (Fits images) writes
    → KeepsOutside (map (λ (write : Write). write.range) writes) images (fold write_on images writes)
