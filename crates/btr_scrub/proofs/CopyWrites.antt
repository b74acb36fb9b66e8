-- The writes of blocks with copies leave the bytes of the blocks behind them.
use Rattle.std.proofs.Common.{◌≡◌, ℕ, ◌+◌, ◌<◌, ◌≤◌, true, false, cond, List, [], length, slice_get, Option, Some, None, IsSome, IsSomeAnd, refl, sym, ap, ◌∙◌}
use Rattle.std.proofs.Common.{subst, arith}
use Rattle.btr_scrub.proofs.Common.{Candidate, Device, Failing, HaveLengths, Images, In, IsSought, KeepsOutside, Layout, Mirror, Part, Range, Target, Write}
use Rattle.btr_scrub.proofs.Common.{bytes_of, covers, device_in, false≢true, filter, filter_map, fresh, has_mirror, image_of, in_below, length-slice_range}
use Rattle.btr_scrub.proofs.Common.{list_any, mending_writes, mirrors, option_map, option_map_or, passes, passing_filter, place_at, range_in, range_of}
use Rattle.btr_scrub.proofs.Common.{range_with_len, same_Some, size_of, value_of}
use Rattle.btr_read.specs.Candidates.{element, reading}
use Rattle.btr_scrub_copies.specs.Fresh.{first_trusted}
use Rattle.btr_scrub.proofs.Agreeing.{IsTrusted, SiteAlike, trusted_from, copies_alike}
use Rattle.btr_scrub.proofs.Positions.{IsCopyByte, of_range}
use Rattle.btr_scrub.proofs.OwnPlaces.{own_copies, over_byte, wrong_own}
use Rattle.btr_scrub.proofs.Places.{covered, on_device}
use Rattle.btr_scrub.proofs.Survival.{range_same}
use Rattle.btr_scrub.proofs.Lists.{first_in, of_filter_map, of_mapped}

-- ---- a range that stands

-- where it lies
pub record IsThere (images : Images) (t : Target) (part : Part) (range : Range) : Type 0 where
  pub device : Device
  pub given : device_in t.devices (place_at t.chunk part t.at).devid ≡ Some device
  pub is : range ≡ range_in device.slot (place_at t.chunk part t.at).offset (size_of t)
  pub within : (place_at t.chunk part t.at).offset + size_of t ≤ length (image_of images device.slot)

-- what stands in a part's range is the part's element, and lies in its image
pub is_there : (images : Images) (layout : Layout) (t : Target) (part : Part) (range : Range) → HaveLengths images layout → IsSought layout t
    → range_of t part ≡ Some range → IsThere images t part range
is_there images layout t part range lengths is e =
    let place = place_at t.chunk part t.at in
    let d = on_device place.offset (size_of t) (device_in t.devices place.devid) range e in
    let long = lengths place.devid d.device (ap (λ ds. device_in ds place.devid) (sym is.devices) ∙ d.there) in
    record { device = d.device; given = d.there; is = d.is; within = omega (arith, d.within, long) }

-- its bytes
pub element_is : (images : Images) (t : Target) (part : Part) (range : Range) → range_of t part ≡ Some range → element images t part
    ≡ bytes_of images range.slot range.off range.len
element_is images t part range e = ap (λ (o : Option Range). option_map_or (λ range. bytes_of images range.slot range.off range.len) o []) e

-- an element that stands is as long as its block
pub long_element : (images : Images) (layout : Layout) (t : Target) (part : Part) → HaveLengths images layout → IsSought layout t
    → IsSome (range_of t part) → length (element images t part) ≡ size_of t
long_element images layout t part lengths is some = by (range_of t part) refl some
  where
    by : (o : Option Range) → range_of t part ≡ o → IsSome o → length (element images t part) ≡ size_of t
    by None e h = absurd (false≢true h)
    by (Some range) e h =
        let there = is_there images layout t part range lengths is e in
        let off = (place_at t.chunk part t.at).offset in
        ap length (element_is images t part range e) ∙ ap (λ (r : Range). length (bytes_of images r.slot r.off r.len)) there.is
        ∙ length-slice_range (image_of images there.device.slot) off (off + size_of t) there.within ∙ omega arith

-- the same bytes, where none of a range's bytes is covered
pub same_element : (images images' : Images) (layout : Layout) (ranges : List Range) (t : Target) (part : Part) → HaveLengths images layout
    → IsSought layout t → KeepsOutside ranges images images'
    → ((slot off : ℕ) → IsSomeAnd (range_of t part) (λ range. covers slot off range ≡ true) → list_any (covers slot off) ranges ≡ false)
    → element images' t part ≡ element images t part
same_element images images' layout ranges t part lengths is keeps free = by (range_of t part) refl
  where
    by : (o : Option Range) → range_of t part ≡ o → element images' t part ≡ element images t part
    by None e = ap (λ (o : Option Range). option_map_or (λ range. bytes_of images' range.slot range.off range.len) o []) e
        ∙ sym (ap (λ (o : Option Range). option_map_or (λ range. bytes_of images range.slot range.off range.len) o []) e)
    by (Some range) e =
        let there = is_there images layout t part range lengths is e in
        let slot = there.device.slot in
        let off = (place_at t.chunk part t.at).offset in
        let len = size_of t in
        let bytes : bytes_of images' slot off len ≡ bytes_of images slot off len =
        range_same (image_of images' slot) (image_of images slot) off (off + len) (omega (arith, there.within, keeps.lengths slot)) (sym (keeps.lengths slot))
        (λ i from to. keeps.bytes slot i (free slot i (subst (λ o. IsSomeAnd o (λ range. covers slot i range ≡ true)) (sym (e ∙ ap Some there.is))
        (covered slot off len i from to)))) in
        element_is images' t part range e ∙ ap (λ (r : Range). bytes_of images' r.slot r.off r.len) there.is
        ∙ bytes
        ∙ sym (element_is images t part range e ∙ ap (λ (r : Range). bytes_of images r.slot r.off r.len) there.is)

-- ---- what is accepted

-- the first that passes is the reading of a candidate
pub first_of : (images : Images) (t : Target) (cs : List Candidate) (bytes : List ℕ)
    → slice_get (filter (passes t.setting t.want) (filter_map (reading images t) cs)) 0 ≡ Some bytes → (c : Candidate) × In c cs
    × (reading images t c ≡ Some bytes)
first_of images t cs bytes e =
    let all = filter_map (reading images t) cs in
    of_filter_map (reading images t) bytes cs
    (passing_filter (passes t.setting t.want) bytes all (first_in (filter (passes t.setting t.want) all) bytes e)).0

-- the fresh bytes are those of a candidate that is trusted
pub record IsFreshBy (fails : Failing) (images : Images) (t : Target) (bytes : List ℕ) : Type 0 where
  pub way : Candidate
  pub trusted : IsTrusted fails t way
  pub value : value_of images t way ≡ bytes
  pub reads : reading images t way ≡ Some bytes

-- fresh bytes are those of a trusted candidate
pub fresh_from : (fails : Failing) (images : Images) (t : Target) (bytes : List ℕ) → fresh images fails t ≡ Some bytes → IsFreshBy fails images t bytes
fresh_from fails images t bytes e = by (first_trusted fails t) refl e
  where
    by : (o : Option Candidate) → first_trusted fails t ≡ o → option_map (value_of images t) o ≡ Some bytes → IsFreshBy fails images t bytes
    by None is e = cc
    by (Some c) is e =
        let trusted = trusted_from fails t c is in
        record {
          way = c;
          trusted = trusted;
          value = same_Some (value_of images t c) bytes e;
          reads = ap (λ b. cond b (Some (value_of images t c)) None) trusted.stand ∙ e;
        }

module _ (fails : Failing) (images : Images) (layout : Layout) (lengths : HaveLengths images layout) where
  module _ (t : Target) (is : IsSought layout t) (n : ℕ) (has : mirrors t.chunk ≡ Some n) where
    -- each byte that is written for it is one of a copy
    pub written_byte : (slot off : ℕ) → list_any (λ (w : Write). covers slot off w.range) (mending_writes images fails t) ≡ true → IsCopyByte layout t slot off
    written_byte slot off h =
        let o = over_byte images fails t slot off h in
        let k = of_mapped Mirror o.2.part (range_with_len 0 n) (subst (In o.2.part) (own_copies t n has) (wrong_own images fails t o.2.part o.2.wrong)) in
        of_range layout t k.0 slot off o.0.range is (has_mirror t n k.0 has (in_below n k.0 k.1)) (ap (range_of t) k.2 ∙ o.2.range) o.1

    -- what is told of it stays where none of its bytes is written
    pub site_stays : (images' : Images) (ranges : List Range) → KeepsOutside ranges images images'
        → ((slot off : ℕ) → IsCopyByte layout t slot off → list_any (covers slot off) ranges ≡ false) → SiteAlike fails fails images images' t
    site_stays images' ranges keeps free =
        copies_alike images images' t n has (λ k lt. same_element images images' layout ranges t (Mirror k) lengths is keeps
        (λ slot off c. free slot off (byte k lt slot off (range_of t (Mirror k)) refl c))) fails
      where
        -- a byte in the range of a copy is a byte of the block's copies
        byte : (k : ℕ) → k < n → (slot off : ℕ) (o : Option Range) → range_of t (Mirror k) ≡ o → IsSomeAnd o (λ range. covers slot off range ≡ true)
            → IsCopyByte layout t slot off
        byte k lt slot off None e c = absurd c
        byte k lt slot off (Some range) e c = of_range layout t k slot off range is (has_mirror t n k has lt) e c
