-- The keys that ranges are looked up by, and sets of them.
use Rattle.std.specs.Prelude.{◌≡◌, true, cond, List}
use Rattle.std.specs.BTreeMap.{is_at}
use Rattle.std.specs.BTreeSet.{BTreeSet, contains}
use Rattle.std.specs.List.{list_any}
use Rattle.std.specs.Ordering.{is_eq, nat_cmp, ordering_then}
use Rattle.std.specs.declared.cmp.Ordering.{Ordering}
use Rattle.btr_chunk.specs.declared.chunk.Chunk.{Chunk}
use Rattle.btr_chunk.specs.declared.place.StripePlace.{StripePlace}
use Rattle.btr_check_space.specs.declared.address_ranges.AddressRange.{AddressRange}
use Rattle.btr_check_space.specs.declared.device_extent.DeviceExtent.{DeviceExtent}
use Rattle.btr_check_space.specs.declared.group.Group.{Group}
use Rattle.btr_check_space.specs.declared.span.Span.{Span}

-- ranges of addresses are ordered by start, then length
abbrev pub range_cmp : AddressRange → AddressRange → Ordering
range_cmp a b = ordering_then (nat_cmp a.start b.start) (nat_cmp a.len b.len)

-- ranges with a type are ordered by start, then length, then type
abbrev pub span_cmp : Span → Span → Ordering
span_cmp a b = ordering_then (nat_cmp a.start b.start) (ordering_then (nat_cmp a.len b.len) (nat_cmp a.flags b.flags))

-- places on devices are ordered by device, then place
abbrev pub place_cmp : StripePlace → StripePlace → Ordering
place_cmp a b = ordering_then (nat_cmp a.devid b.devid) (nat_cmp a.offset b.offset)

-- ranges of devices are ordered by device, then place, chunk and length
abbrev pub extent_cmp : DeviceExtent → DeviceExtent → Ordering
extent_cmp a b = ordering_then (nat_cmp a.devid b.devid)
    (ordering_then (nat_cmp a.offset b.offset) (ordering_then (nat_cmp a.chunk b.chunk) (nat_cmp a.len b.len)))

-- a set has the keys of some things, and no other
abbrev pub KeysOf : {X K : Type 0} → (K → K → Ordering) → (X → K) → List X → BTreeSet K → Type 0
KeysOf {X} {K} R key xs set = (one : K) → contains R set one ≡ list_any (λ x. is_eq (R (key x) one)) xs

-- a set has what it had, and a key
abbrev pub HasOneMore : {K : Type 0} → (K → K → Ordering) → K → BTreeSet K → BTreeSet K → Type 0
HasOneMore {K} R key old new = (one : K) → contains R new one ≡ cond (is_at (R key) one) true (contains R old one)

-- what a block group and its chunk agree on: range and type
abbrev pub group_span : Group → Span
group_span group = record { start = group.start; len = group.len; flags = group.flags }

-- what a chunk and its block group agree on: range and type
abbrev pub chunk_span : Chunk → Span
chunk_span chunk = record { start = chunk.start; len = chunk.length; flags = chunk.kind }

-- the range of addresses without its type
abbrev pub span_range : Span → AddressRange
span_range span = record { start = span.start; len = span.len }

-- the range of a block group
abbrev pub group_range : Group → AddressRange
group_range group = record { start = group.start; len = group.len }

-- where a device extent begins
abbrev pub extent_place : DeviceExtent → StripePlace
extent_place extent = record { devid = extent.devid; offset = extent.offset }
