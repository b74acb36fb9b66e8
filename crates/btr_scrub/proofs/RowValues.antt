-- What a candidate of a block in a full stripe gives is as long as the block.
use Rattle.std.proofs.Common.{◌≡◌, ◌≢◌, ℕ, ◌+◌, ◌-◌, ◌<◌, ◌≤◌, Bool, true, false, cond, List, length, None, IsNone, All, refl, sym, ap, subst, inl, inr, arith}
use Rattle.btr_scrub.proofs.Common.{Candidate, HasPart, Images, In, IsSlice, P, Part, Q, Raid5, Raid6, Read, Target, candidates, data_count, in_below}
use Rattle.btr_scrub.proofs.Common.{in_either, mirrors, option_map_or, parity_p, parity_q, range_with_len, size_of, slice_count, value_of, without_copies}
use Rattle.btr_chunk.specs.declared.place.Part.TheVariants.{Slice}
use Rattle.btr_parity.specs.Slices.{zeros, plus}
use Rattle.btr_parity.proofs.Folding.{quotient_is_one, pair_is_one}
use Rattle.btr_parity.proofs.Lost.{plus_slice, zeros_slice, parity_p_slice, weighted_slice}
use Rattle.btr_read.specs.Candidates.{copies, element, others, reads_slice, rebuilt}
use Rattle.btr_read.specs.Gathering.{read_slices}
use Rattle.btr_read.specs.declared.candidate.Candidate.TheVariants.{ByP, ByQ, ByBoth}
use Rattle.btr_read.proofs.Order.{in_ways}
use Rattle.btr_read.proofs.Rebuilt.{at_slice, length-rs, by_p, by_q, by_both}
use Rattle.btr_scrub.proofs.RowNumbers.{in_range}
use Rattle.btr_scrub.proofs.Lists.{of_mapped}

-- another slice than the one that is sought is one of the row
other_below : (k i x : ℕ) → i < k → In x (others k i) → (x < k) × (i ≢ x)
other_below k i x lt among = elim (in_either x (range_with_len 0 i) (range_with_len (i + 1) (k - (i + 1))) among) [
  | inl j ↦ let b = in_below i x j in (omega (arith, lt, b), λ e. absurd (omega (arith, e, b)))
  | inr j ↦ let b = in_range (i + 1) (k - (i + 1)) x j in (omega (arith, lt, b.1), λ e. absurd (omega (arith, e, b.0)))
]

-- each candidate of a block without copies is its slice, or rebuilt by P, by Q, or by both and another slice
module _ (t : Target) (none : mirrors t.chunk ≡ None) (index : t.at.index < slice_count t) (Holds : Candidate → Type 0) (own : Holds (Read (Slice t.at.index)))
    (p : Holds ByP) (q : t.chunk.profile ≡ Raid6 → Holds ByQ)
    (both : t.chunk.profile ≡ Raid6 → (j : ℕ) → j < slice_count t → t.at.index ≢ j → Holds (ByBoth j)) where
  -- with one parity each way is to read its slice, or to rebuild it by P
  with_five : (c : Candidate) → In c (rebuilt Raid5 (slice_count t) t.at.index) → Holds c
  with_five c (inl e) = subst Holds e own
  with_five c (inr (inl e)) = subst Holds e p
  with_five c (inr (inr i)) = absurd i

  -- with two it is one of these, or to rebuild it by Q, or by both without another slice
  with_six : t.chunk.profile ≡ Raid6 → (c : Candidate) → In c (rebuilt Raid6 (slice_count t) t.at.index) → Holds c
  with_six six c (inl e) = subst Holds e own
  with_six six c (inr (inl e)) = subst Holds e p
  with_six six c (inr (inr (inl e))) = subst Holds e (q six)
  with_six six c (inr (inr (inr i))) =
      let r = of_mapped ByBoth c (others (slice_count t) t.at.index) i in
      let o = other_below (slice_count t) t.at.index r.0 index r.1 in
      subst Holds r.2 (both six r.0 o.0 o.1)

  -- what holds of each way there is to a block holds of its candidates
  pub each_candidate : (c : Candidate) → In c (candidates t) → Holds c
  each_candidate c i =
      let among : In c (rebuilt t.chunk.profile (slice_count t) t.at.index) =
      subst (In c) (ap (λ o. option_map_or copies o (rebuilt t.chunk.profile (slice_count t) t.at.index)) none) (in_ways t c i) in
      elim (without_copies t.chunk.profile (length t.chunk.stripes) none) [
        | inl five ↦ with_five c (subst (λ p. In c (rebuilt p (slice_count t) t.at.index)) five among)
        | inr six ↦ with_six six c (subst (λ p. In c (rebuilt p (slice_count t) t.at.index)) six among)
      ]

module _ (images : Images) (t : Target) (none : mirrors t.chunk ≡ None) (index : t.at.index < slice_count t) (few : length t.chunk.stripes ≤ 64)
    (whole : (part : Part) → HasPart t.chunk.profile (length t.chunk.stripes) part → IsSlice (size_of t) (element images t part)) where
  -- a slice of the row has the block's length
  slice_whole : (s : ℕ) → s < slice_count t → IsSlice (size_of t) (element images t (Slice s))
  slice_whole s lt = whole (Slice s) (subst IsNone (sym none) refl, lt)

  -- so has each that a candidate reads, with zeros for those that it doesn't
  rows_whole : (c : Candidate) → All (IsSlice (size_of t)) (read_slices images t c)
  rows_whole c k d lt =
      let below : k < slice_count t = omega (arith, lt, length-rs images t c) in
      subst (IsSlice (size_of t)) (sym (at_slice images t c k d below)) (by (reads_slice t.at.index c k) below)
    where
      by : (b : Bool) → k < slice_count t → IsSlice (size_of t) (cond b (element images t (Slice k)) (zeros (size_of t)))
      by true below = slice_whole k below
      by false below = zeros_slice (size_of t)

  -- so has P
  p_whole : IsSlice (size_of t) (element images t P)
  p_whole = whole P (subst IsNone (sym none) refl)

  -- what P leaves of the slices that are read
  abbrev left_p : Candidate → List ℕ
  left_p c = plus (element images t P) (parity_p (size_of t) (read_slices images t c))

  -- so has what P leaves
  left_p_whole : (c : Candidate) → IsSlice (size_of t) (left_p c)
  left_p_whole c = plus_slice (size_of t) (element images t P) (parity_p (size_of t) (read_slices images t c)) p_whole
      (parity_p_slice (size_of t) (read_slices images t c) (rows_whole c))

  -- what P gives for the block has its length
  by_p_whole : IsSlice (size_of t) (value_of images t ByP)
  by_p_whole = subst (IsSlice (size_of t)) (sym (by_p images t (left_p ByP) index (record { slices = rows_whole ByP; whole = p_whole; sum = refl })))
      (left_p_whole ByP)

  module _ (six : t.chunk.profile ≡ Raid6) where
    -- so has Q
    q_whole : IsSlice (size_of t) (element images t Q)
    q_whole = whole Q six

    -- what Q leaves of them
    abbrev left_q : Candidate → List ℕ
    left_q c = plus (element images t Q) (parity_q (size_of t) (read_slices images t c))

    -- so has what Q leaves
    left_q_whole : (c : Candidate) → IsSlice (size_of t) (left_q c)
    left_q_whole c = plus_slice (size_of t) (element images t Q) (parity_q (size_of t) (read_slices images t c)) q_whole
        (weighted_slice (size_of t) 0 (read_slices images t c) (rows_whole c))

    -- with at most 64 stripes, two of them parities, a slice's number is at most 62
    below_62 : (i : ℕ) → i < slice_count t → i ≤ 62
    below_62 i lt =
        let below : i < length t.chunk.stripes - 2 = subst (λ p. i < data_count p (length t.chunk.stripes)) six lt in
        omega (arith, below, few)

    -- what Q gives for the block has its length
    by_q_whole : IsSlice (size_of t) (value_of images t ByQ)
    by_q_whole =
        let S = left_q ByQ in
        let q = quotient_is_one (size_of t) t.at.index S (below_62 t.at.index index) (left_q_whole ByQ) in
        subst (IsSlice (size_of t)) (sym (by_q images t S q.0 index (record { slices = rows_whole ByQ; whole = q_whole; sum = refl }) q.1)) q.1.slice

    -- so has what both give, without another slice
    by_both_whole : (j : ℕ) → j < slice_count t → t.at.index ≢ j → IsSlice (size_of t) (value_of images t (ByBoth j))
    by_both_whole j lt ne =
        let c = ByBoth j in
        let S = left_p c in
        let W = left_q c in
        let pair = pair_is_one (size_of t) t.at.index j S W (below_62 t.at.index index) (below_62 j lt) ne (left_p_whole c) (left_q_whole c) in
        subst (IsSlice (size_of t)) (sym (by_both images t j S W pair.0 index lt ne
        (record { slices = rows_whole c; whole = p_whole; sum = refl }) (record { slices = rows_whole c; whole = q_whole; sum = refl }) pair.1)) pair.1.slice

  -- a candidate that reads slices gives one
  pub value_whole : (c : Candidate) → In c (candidates t) → IsSlice (size_of t) (value_of images t c)
  value_whole = each_candidate t none index (λ c. IsSlice (size_of t) (value_of images t c)) (slice_whole t.at.index index) by_p_whole by_q_whole by_both_whole
