-- Stripes, device extents and devices.
use Rattle.std.specs.Prelude.{ℕ, ◌==◌, ◌&&◌, ◌||◌, Bool, List, [], ◌∷◌, ◌++◌, map, filter_map, flat_map, sum_by, cond, Option}
use Rattle.std.specs.List.{list_any}
use Rattle.btr_chunk.specs.Chunk.{stripe_length}
use Rattle.btr_chunk.specs.declared.chunk.Chunk.{Chunk}
use Rattle.btr_chunk.specs.declared.stripe.Stripe.{Stripe}
use Rattle.btr_findings.specs.declared.finding.Finding.{Finding}
use Rattle.btr_findings.specs.declared.kind.Kind.TheVariants as kind
use Rattle.btr_findings.specs.Findings.{found, unless, shown_sum}
use Rattle.btr_check_space.specs.declared.device_extent.DeviceExtent.{DeviceExtent}
use Rattle.btr_check_space.specs.declared.stated_device.StatedDevice.{StatedDevice}

-- the range of a device that a stripe of a chunk has
abbrev pub stripe_range : Chunk → Stripe → DeviceExtent
stripe_range chunk stripe = record { devid = stripe.devid; offset = stripe.offset; chunk = chunk.start; len = stripe_length chunk }

-- the ranges of devices that a chunk has
abbrev pub chunk_ranges : Chunk → List DeviceExtent
chunk_ranges chunk = map (stripe_range chunk) chunk.stripes

-- the ranges of devices that chunks have
abbrev pub ranges_of : List Chunk → List DeviceExtent
ranges_of chunks = flat_map chunk_ranges chunks

-- a stripe has a device extent of its chunk and length
abbrev pub chunk_device : List DeviceExtent → DeviceExtent → Option Finding
chunk_device extents range =
    unless (list_any (λ extent. (extent.devid == range.devid) && (extent.offset == range.offset) && (extent.chunk == range.chunk) && (extent.len == range.len))
    extents)
    (found kind.ChunkDevice (range.chunk ∷ range.devid ∷ range.offset ∷ []))

-- a device extent has a stripe
abbrev pub device_chunk : List DeviceExtent → DeviceExtent → Option Finding
device_chunk ranges extent =
    unless (list_any (λ range. (range.devid == extent.devid) && (range.offset == extent.offset)) ranges)
    (found kind.DeviceChunk (extent.devid ∷ extent.offset ∷ []))

-- the bytes that a device has in device extents
abbrev pub given_of : List DeviceExtent → ℕ → ℕ
given_of extents devid = sum_by (λ extent. cond (extent.devid == devid) extent.len 0) extents

-- the finding that a device states other bytes than it has in device extents
abbrev pub used_row : ℕ → ℕ → ℕ → Finding
used_row devid stated given = found kind.DeviceUsed (devid ∷ stated ∷ shown_sum given ∷ [])

-- a device states the bytes that it has in device extents
abbrev pub device_used : List DeviceExtent → StatedDevice → Option Finding
device_used extents device = unless (device.used == given_of extents device.devid) (used_row device.devid device.used (given_of extents device.devid))

-- a device has an item
abbrev pub has_device : List StatedDevice → ℕ → Bool
has_device devices devid = list_any (λ (device : StatedDevice). device.devid == devid) devices

-- a device without an item has no bytes in device extents
abbrev pub unstated_used : List StatedDevice → List DeviceExtent → DeviceExtent → Option Finding
unstated_used devices extents extent =
    unless (has_device devices extent.devid || (given_of extents extent.devid == 0)) (used_row extent.devid 0 (given_of extents extent.devid))

-- the findings on chunks, device extents and devices
abbrev pub device_findings : List Chunk → List DeviceExtent → List StatedDevice → List Finding
device_findings chunks extents devices =
    filter_map (chunk_device extents) (ranges_of chunks)
    ++ filter_map (device_chunk (ranges_of chunks)) extents
    ++ filter_map (device_used extents) devices
    ++ filter_map (unstated_used devices extents) extents
