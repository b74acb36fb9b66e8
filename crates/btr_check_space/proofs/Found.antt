-- Things that are looked up by their keys are those that agree in the key's parts.
use Rattle.std.proofs.Common.{◌≡◌, ℕ, Bool, true, false, ◌&&◌, List, eqb, refl, ap, ◌∙◌}
use Rattle.std.specs.BTreeSet.{BTreeSet, contains}
use Rattle.std.specs.List.{list_any}
use Rattle.std.specs.Ordering.{is_eq, nat_cmp, ordering_then}
use Rattle.std.specs.declared.cmp.Ordering.{Ordering}
use Rattle.std.specs.declared.cmp.Ordering.TheVariants.{Less, Equal, Greater}
use Rattle.btr_chunk.specs.declared.place.StripePlace.{StripePlace}
use Rattle.btr_check_space.specs.Orders.{KeysOf, range_cmp, span_cmp, place_cmp, extent_cmp, group_span, span_range, group_range, extent_place}
use Rattle.btr_check_space.specs.declared.device_extent.DeviceExtent.{DeviceExtent}
use Rattle.btr_check_space.specs.declared.group.Group.{Group}
use Rattle.btr_check_space.specs.declared.address_ranges.AddressRange.{AddressRange}
use Rattle.btr_check_space.specs.declared.span.Span.{Span}
use Rattle.btr_findings.proofs.SectorRuns.{tied_number}

-- two comparisons in turn say equal just where both of them do
both_same : (a b : Ordering) → is_eq (ordering_then a b) ≡ (is_eq a && is_eq b)
both_same Less b = refl
both_same Equal b = refl
both_same Greater b = refl

-- two numbers, and whatever comes behind
number_then : (x y : ℕ) (rest : Ordering) (test : Bool) → is_eq rest ≡ test → is_eq (ordering_then (nat_cmp x y) rest) ≡ (eqb x y && test)
number_then x y rest test is =
    both_same (nat_cmp x y) rest
    ∙ ap (λ b. b && is_eq rest) (tied_number x y)
    ∙ ap (λ b. eqb x y && b) is

-- ranges of addresses compare as equal just where start and length are equal
same_range : (a b : AddressRange) → is_eq (range_cmp a b) ≡ (eqb a.start b.start && eqb a.len b.len)
same_range a b = number_then a.start b.start (nat_cmp a.len b.len) (eqb a.len b.len) (tied_number a.len b.len)

and_regroups : (a b c : Bool) → (a && (b && c)) ≡ ((a && b) && c)
and_regroups true b c = refl
and_regroups false b c = refl

-- ranges with a type compare as equal just where start, length and type are equal
same_span : (a b : Span) → is_eq (span_cmp a b) ≡ ((eqb a.start b.start && eqb a.len b.len) && eqb a.flags b.flags)
same_span a b =
    number_then a.start b.start (ordering_then (nat_cmp a.len b.len) (nat_cmp a.flags b.flags)) (eqb a.len b.len && eqb a.flags b.flags)
    (number_then a.len b.len (nat_cmp a.flags b.flags) (eqb a.flags b.flags) (tied_number a.flags b.flags))
    ∙ and_regroups (eqb a.start b.start) (eqb a.len b.len) (eqb a.flags b.flags)

-- places on devices compare as equal just where device and place are equal
same_place : (a b : StripePlace) → is_eq (place_cmp a b) ≡ (eqb a.devid b.devid && eqb a.offset b.offset)
same_place a b = number_then a.devid b.devid (nat_cmp a.offset b.offset) (eqb a.offset b.offset) (tied_number a.offset b.offset)

and_regroups_twice : (a b c d : Bool) → (a && (b && (c && d))) ≡ (((a && b) && c) && d)
and_regroups_twice true true c d = refl
and_regroups_twice true false c d = refl
and_regroups_twice false b c d = refl

-- ranges of devices compare as equal just where device, place, chunk and length are equal
same_extent : (a b : DeviceExtent) → is_eq (extent_cmp a b) ≡ (((eqb a.devid b.devid && eqb a.offset b.offset) && eqb a.chunk b.chunk) && eqb a.len b.len)
same_extent a b =
    number_then a.devid b.devid (ordering_then (nat_cmp a.offset b.offset) (ordering_then (nat_cmp a.chunk b.chunk) (nat_cmp a.len b.len)))
    (eqb a.offset b.offset && (eqb a.chunk b.chunk && eqb a.len b.len))
    (number_then a.offset b.offset (ordering_then (nat_cmp a.chunk b.chunk) (nat_cmp a.len b.len)) (eqb a.chunk b.chunk && eqb a.len b.len)
    (number_then a.chunk b.chunk (nat_cmp a.len b.len) (eqb a.len b.len) (tied_number a.len b.len)))
    ∙ and_regroups_twice (eqb a.devid b.devid) (eqb a.offset b.offset) (eqb a.chunk b.chunk) (eqb a.len b.len)

-- where two tests agree on each thing, something passes the one just where something passes the other
any_same : {X : Type 0} (p q : X → Bool) (xs : List X) → ((x : X) → p x ≡ q x) → list_any p xs ≡ list_any q xs
any_same p q xs same = ap (λ test. list_any test xs) (λ i x. same x i)

-- what a look-up answers
pub span_found : (groups : List Group) (set : BTreeSet Span) (chunk : Span) → KeysOf span_cmp group_span groups set
    → contains span_cmp set chunk ≡ list_any (λ (group : Group). (eqb group.start chunk.start && eqb group.len chunk.len) && eqb group.flags chunk.flags) groups
span_found groups set chunk keys = keys chunk ∙ any_same _ _ groups (λ group. same_span (group_span group) chunk)

-- a block group's range is found in the set of chunks just where a chunk has its start and length
pub range_found : (chunks : List Span) (set : BTreeSet AddressRange) (group : Group) → KeysOf range_cmp span_range chunks set
    → contains range_cmp set (group_range group) ≡ list_any (λ (chunk : Span). eqb chunk.start group.start && eqb chunk.len group.len) chunks
range_found chunks set group keys = keys (group_range group) ∙ any_same _ _ chunks (λ chunk. same_range (span_range chunk) (group_range group))

-- a stripe's range is found in the set of device extents just where one has its device, place, chunk and length
pub extent_found : (extents : List DeviceExtent) (set : BTreeSet DeviceExtent) (range : DeviceExtent)
    → KeysOf extent_cmp (λ (extent : DeviceExtent). extent) extents set
    → contains extent_cmp set range ≡ list_any (λ (extent : DeviceExtent).
    ((eqb extent.devid range.devid && eqb extent.offset range.offset) && eqb extent.chunk range.chunk) && eqb extent.len range.len) extents
extent_found extents set range keys = keys range ∙ any_same _ _ extents (λ extent. same_extent extent range)

-- a device extent's place is found in the set of stripes just where one begins there on its device
pub place_found : (ranges : List DeviceExtent) (set : BTreeSet StripePlace) (extent : DeviceExtent) → KeysOf place_cmp extent_place ranges set
    → contains place_cmp set (extent_place extent) ≡ list_any (λ (range : DeviceExtent). eqb range.devid extent.devid && eqb range.offset extent.offset) ranges
place_found ranges set extent keys = keys (extent_place extent) ∙ any_same _ _ ranges (λ range. same_place (extent_place range) (extent_place extent))
