-- The writes for a block have at most as many bytes as their ranges.
use Rattle.std.proofs.Common.{◌≡◌, ℕ, ◌+◌, ◌-◌, ◌≤◌, Bool, true, false, cond, List, [], ◌∷◌, length, drop, All, Option, nat_lt, Some, None, refl, ap, subst}
use Rattle.std.proofs.Common.{inl, inr, arith, length-take}
use Rattle.btr_scrub.proofs.Common.{Candidate, Failing, HaveLengths, Images, In, IsSought, Layout, Part, Range, Read, Target, accepted, candidates, device_in}
use Rattle.btr_scrub.proofs.Common.{fresh, image_of, is_plain, mending_writes, new_bytes, option_map_or, place_at, range_in, range_on, same_Some, size_of}
use Rattle.btr_scrub.proofs.Common.{stale_parts, stands, value_of}
use Rattle.std.specs.List.{find}
use Rattle.std.specs.Option.{unwrap_or}
use Rattle.btr_rack.specs.Rack.{bytes_of}
use Rattle.btr_read.specs.Candidates.{element}
use Rattle.btr_read.specs.Solution.{byte_lists, the_one}
use Rattle.btr_read.proofs.Ones.{all_slices}
use Rattle.btr_scrub.proofs.CopyWrites.{first_of, fresh_from, is_there}
use Rattle.btr_scrub.proofs.Pasting.{Short}
use Rattle.btr_scrub.proofs.OwnPlaces.{is_over}
use Rattle.btr_scrub.proofs.Lists.{all_from}

-- ---- what is accepted is no longer than what is sought

-- what is found among short lists is short, and so is nothing
find_short : (n : ℕ) (p : List ℕ → Bool) (xs : List (List ℕ)) → ((x : List ℕ) → In x xs → length x ≤ n) → length (unwrap_or (find p xs) []) ≤ n
find_short n p [] h = omega arith
find_short n p (x ∷ xs) h = by (p x) (find_short n p xs (λ y i. h y (inr i)))
  where
    by : (b : Bool) → length (unwrap_or (find p xs) []) ≤ n → length (unwrap_or (cond b (Some x) (find p xs)) []) ≤ n
    by true rest = h x (inl refl)
    by false rest = rest

-- the one slice that passes a test is no longer than a slice
the_one_short : (n : ℕ) (p : List ℕ → Bool) → length (the_one n p) ≤ n
unfolding the_one
the_one_short n p = find_short n p (byte_lists n) (λ x i. omega (arith, (all_slices n x i).long))

-- the bytes of a range are at most as many as its length
range_short : (images : Images) (slot off len : ℕ) → length (bytes_of images slot off len) ≤ len
range_short images slot off len = omega (arith, length-take (off + len - off) (drop off (image_of images slot)))

-- what stands at a part of a block is no longer than the block
element_short : (images : Images) (t : Target) (part : Part) → length (element images t part) ≤ size_of t
element_short images t part = by (device_in t.devices (place_at t.chunk part t.at).devid)
  where
    -- so it is whether the range lies in the device or not
    or : (b : Bool) (slot off : ℕ) → length (option_map_or (λ (range : Range). bytes_of images range.slot range.off range.len)
        (cond b (Some (range_in slot off (size_of t))) None) []) ≤ size_of t
    or true slot off = range_short images slot off (size_of t)
    or false slot off = omega arith

    -- so it is whether the device is there or not
    by : (o : Option _) → length (option_map_or (λ (range : Range). bytes_of images range.slot range.off range.len)
        (range_on (place_at t.chunk part t.at).offset (size_of t) o) []) ≤ size_of t
    by None = omega arith
    by (Some device) = or _ device.slot (place_at t.chunk part t.at).offset

-- what a candidate gives is no longer than the block
value_short : (images : Images) (t : Target) (c : Candidate) → length (value_of images t c) ≤ size_of t
value_short images t (Read part) = element_short images t part
value_short images t c = the_one_short (size_of t) _

-- what is accepted for a block is no longer than it
accepted_short : (images : Images) (t : Target) (bytes : List ℕ) → accepted images t ≡ Some bytes → length bytes ≤ size_of t
accepted_short images t bytes e =
    let f = first_of images t (candidates t) bytes e in
    by f.0 (stands t f.0) f.2
  where
    by : (c : Candidate) (b : Bool) → cond b (Some (value_of images t c)) None ≡ Some bytes → length bytes ≤ size_of t
    by c true e = omega (arith, value_short images t c, ap length (same_Some (value_of images t c) bytes e))
    by c false e = cc

-- ---- the writes for a block

module _ (images : Images) (layout : Layout) (lengths : HaveLengths images layout) (t : Target) (is : IsSought layout t) (fails : Failing) where
  -- the bytes that it gets are no longer than it
  gets_short : (bytes : List ℕ) → new_bytes images fails t ≡ Some bytes → length bytes ≤ size_of t
  gets_short bytes e = by (is_plain t.want) (nat_lt 0 (length (stale_parts images fails t))) e
    where
      by : (b c : Bool) → cond b (cond c (fresh images fails t) None) (accepted images t) ≡ Some bytes → length bytes ≤ size_of t
      by true true e = let f = fresh_from fails images t bytes e in subst (λ xs. length xs ≤ size_of t) f.value (value_short images t f.way)
      by true false e = cc
      by false c e = accepted_short images t bytes e

  -- each write for a block fits
  pub site_short : All (Short images) (mending_writes images fails t)
  site_short = all_from (Short images) (mending_writes images fails t) (λ w i.
      let o = is_over images fails t w i in
      let there = is_there images layout t o.part w.range lengths is o.range in
      let off : w.range.off ≡ (place_at t.chunk o.part t.at).offset = ap (λ (r : Range). r.off) there.is in
      let len : w.range.len ≡ size_of t = ap (λ (r : Range). r.len) there.is in
      let image : length (image_of images w.range.slot) ≡ length (image_of images there.device.slot) =
      ap (λ (r : Range). length (image_of images r.slot)) there.is in
      record { short = omega (arith, gets_short w.bytes o.gets, len); within = omega (arith, there.within, off, len, image) })
