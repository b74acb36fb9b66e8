-- What the value of a candidate hangs on.
use Rattle.std.proofs.Common.{◌≡◌, ◌≢◌, ℕ, ◌-◌, ◌<◌, ◌≤◌, Bool, true, false, cond, ◌&&◌, List, [], length, get_or, set, Option, Some, None, refl, sym}
use Rattle.std.proofs.Common.{◌∙◌, subst, inl, inr, arith}
use Rattle.std.proofs.lemmas.List.{length-set}
use Rattle.std.specs.List.{All, Contains, list_any}
use Rattle.std.specs.Option.{option_map_or}
use Rattle.std.specs.Str.{bytes_eq}
use Rattle.btr_rack.specs.Rack.{bytes_of}
use Rattle.btr_rack.specs.declared.place.Place.{Place as Range}
use Rattle.btr_chunk.specs.Chunk.{data_count}
use Rattle.btr_chunk.specs.declared.place.Part.{Part}
use Rattle.btr_chunk.specs.declared.place.Part.TheVariants.{Slice, P, Q}
use Rattle.btr_chunk.specs.declared.profile.Profile.TheVariants.{Raid6}
use Rattle.btr_parity.specs.Slices.{IsSlice, zeros, plus, parity_p, parity_q}
use Rattle.btr_parity.specs.Solutions.{IsTheOne}
use Rattle.btr_parity.proofs.Folding.{quotient_is_one, pair_is_one}
use Rattle.btr_parity.proofs.Lost.{plus_slice, zeros_slice, parity_p_slice, weighted_slice}
use Rattle.btr_read.specs.declared.candidate.Candidate.{Candidate}
use Rattle.btr_read.specs.declared.candidate.Candidate.TheVariants.{Read, ByP, ByQ, ByBoth}
use Rattle.btr_read.specs.declared.parity.Parity.{Parity}
use Rattle.btr_read.specs.declared.parity.Parity.TheVariants as parity
use Rattle.btr_read.specs.Candidates.{Target, size_of, slice_count, range_of, ranges_of, reads_slice, parts_read, element, slices}
use Rattle.btr_read.specs.Gathering.{part_of, parity_of, read_slices, IsGathered}
use Rattle.btr_read.specs.Solution.{byte_lists, the_one}
use Rattle.btr_read.specs.Sought.{IsTarget, Uses}
use Rattle.btr_read.specs.Values.{Solves, AreWhole, ValueIsTheOne, ValueByRanges}
use Rattle.btr_read.proofs.Ones.{In, at_in}
use Rattle.btr_read.proofs.Parts.{slice_in, parity_in, range_in}
use Rattle.btr_read.proofs.Rebuilt.{set_alike, same_set, at_slice, at_element, length-rs, length-slices, not_other}
use Rattle.btr_read.proofs.Rebuilt.{one_by_p, one_by_q, one_by_both, by_p, by_q, by_both}
use Rattle.btr_read.proofs.Standing.{both}
use Rattle.btr_read.proofs.Sums.{is_read, isnt_read}

-- ---- the one solution

module _ (images : List (List ℕ)) (t : Target) (c : Candidate) (whole : AreWhole images t c) where
  -- each part that the candidate reads is whole
  part_whole : (part : Part) → In part (parts_read (slice_count t) t.at.index c) → IsSlice (size_of t) (element images t part)
  part_whole part i = whole part (at_in part (parts_read (slice_count t) t.at.index c) i)

  -- the slices that are read, and zeros, are whole
  rows_whole : All (IsSlice (size_of t)) (read_slices images t c)
  rows_whole k d lt =
      let below : k < slice_count t = omega (arith, lt, length-rs images t c) in
      subst (IsSlice (size_of t)) (sym (at_slice images t c k d below)) (by (reads_slice t.at.index c k) refl below)
    where
      by : (b : Bool) → reads_slice t.at.index c k ≡ b → k < slice_count t
          → IsSlice (size_of t) (cond (reads_slice t.at.index c k) (element images t (Slice k)) (zeros (size_of t)))
      by true e below = subst (IsSlice (size_of t)) (sym (is_read images t c k e)) (part_whole (Slice k) (slice_in (slice_count t) t.at.index c k below e))
      by false e below = subst (IsSlice (size_of t)) (sym (isnt_read images t c k e)) (zeros_slice (size_of t))

  -- what a parity leaves of the others
  abbrev left : Parity → List ℕ
  left p = plus (element images t (part_of p)) (parity_of p (size_of t) (read_slices images t c))

  -- what a parity that the candidate reads leaves is the parity less the slices that it reads
  gathered : (p : Parity) → Uses p c → IsGathered images t c p (left p)
  gathered p uses = record { slices = rows_whole; whole = part_whole (part_of p) (parity_in (slice_count t) t.at.index p c uses); sum = refl }

  -- the parity of the slices that are read, and zeros, is a whole slice
  parity_whole : (p : Parity) → IsSlice (size_of t) (parity_of p (size_of t) (read_slices images t c))
  parity_whole parity.P = parity_p_slice (size_of t) (read_slices images t c) rows_whole
  parity_whole parity.Q = weighted_slice (size_of t) 0 (read_slices images t c) rows_whole

  -- what a parity that the candidate reads leaves is a whole slice
  left_whole : (p : Parity) → Uses p c → IsSlice (size_of t) (left p)
  left_whole p uses = plus_slice (size_of t) (element images t (part_of p)) (parity_of p (size_of t) (read_slices images t c))
      (part_whole (part_of p) (parity_in (slice_count t) t.at.index p c uses)) (parity_whole p)

-- a slice of a row with P and Q is one of 62
below_62 : (t : Target) (i : ℕ) → IsTarget t.setting t.chunk t.at → t.chunk.profile ≡ Raid6 → i < slice_count t → i ≤ 62
below_62 t i is six lt =
    let below : i < length t.chunk.stripes - 2 = subst (λ p. i < data_count p (length t.chunk.stripes)) six lt in
    omega (arith, below, is.keeps_rule.few)

-- the value of a candidate by parities is the one slice that solves its equations
pub value_is_the_one : ValueIsTheOne
value_is_the_one images t (Read part) is rebuilt whole = absurd rebuilt
value_is_the_one images t ByP is rebuilt whole =
    let X = left images t ByP whole parity.P in
    let h = gathered images t ByP whole parity.P tt in
    subst (IsTheOne (size_of t) (Solves images t ByP)) (sym (by_p images t X is.position.index h)) (one_by_p images t X is.position.index h)
value_is_the_one images t ByQ is rebuilt whole =
    let S = left images t ByQ whole parity.Q in
    let h = gathered images t ByQ whole parity.Q tt in
    let q = quotient_is_one (size_of t) t.at.index S (below_62 t t.at.index is rebuilt is.position.index) (left_whole images t ByQ whole parity.Q tt) in
    subst (IsTheOne (size_of t) (Solves images t ByQ)) (sym (by_q images t S q.0 is.position.index h q.1)) (one_by_q images t S q.0 is.position.index h q.1)
value_is_the_one images t (ByBoth j) is rebuilt whole =
    let S = left images t (ByBoth j) whole parity.P in
    let W = left images t (ByBoth j) whole parity.Q in
    let p = gathered images t (ByBoth j) whole parity.P tt in
    let q = gathered images t (ByBoth j) whole parity.Q tt in
    let ne : t.at.index ≢ j = λ e. rebuilt.2 (sym e) in
    let pair = pair_is_one (size_of t) t.at.index j S W (below_62 t t.at.index is rebuilt.0 is.position.index) (below_62 t j is rebuilt.0 rebuilt.1) ne
    (left_whole images t (ByBoth j) whole parity.P tt) (left_whole images t (ByBoth j) whole parity.Q tt) in
    subst (IsTheOne (size_of t) (Solves images t (ByBoth j))) (sym (by_both images t j S W pair.0 is.position.index rebuilt.1 ne p q pair.1))
    (one_by_both images t j S W pair.0 is.position.index rebuilt.1 ne p q pair.1)

-- ---- the ranges

module _ (images others : List (List ℕ)) (t : Target) (c : Candidate)
    (agree : (range : Range) → Contains (ranges_of t c) range → bytes_of images range.slot range.off range.len
    ≡ bytes_of others range.slot range.off range.len) where
  -- a part that the candidate reads has the same bytes in both
  same_part : (part : Part) → In part (parts_read (slice_count t) t.at.index c) → element images t part ≡ element others t part
  same_part part i = by (range_of t part) refl
    where
      by : (o : Option Range) → range_of t part ≡ o → option_map_or (λ range. bytes_of images range.slot range.off range.len) o []
          ≡ option_map_or (λ range. bytes_of others range.slot range.off range.len) o []
      by None e = refl
      by (Some m) e = agree m (at_in m (ranges_of t c) (range_in t (parts_read (slice_count t) t.at.index c) part m i e))

  -- both have as many slices
  even : length (slices images t) ≡ length (slices others t)
  even = length-slices images t c ∙ sym (length-slices others t c)

  -- slices that are read are the same
  same_slice : (s : ℕ) (d : List ℕ) → s < length (slices images t) → reads_slice t.at.index c s ≡ true → get_or (slices images t) s d
      ≡ get_or (slices others t) s d
  same_slice s d lt reads =
      let below : s < slice_count t = omega (arith, lt, length-slices images t c) in
      at_element images t c s d below ∙ same_part (Slice s) (slice_in (slice_count t) t.at.index c s below reads) ∙ sym (at_element others t c s d below)

  -- so are all with others in the places of those that aren't
  same_with_one : ((s : ℕ) → s ≢ t.at.index → reads_slice t.at.index c s ≡ true) → (X : List ℕ) → set (slices images t) t.at.index X
      ≡ set (slices others t) t.at.index X
  same_with_one reads X = same_set (slices images t) (slices others t) t.at.index X even (λ s d ne lt. same_slice s d lt (reads s ne))

  -- with slices put in the places of the two that aren't read, both rows are the same
  same_with_two : (j : ℕ) → ((s : ℕ) → s ≢ t.at.index → s ≢ j → reads_slice t.at.index c s ≡ true) → (X Y : List ℕ)
      → set (set (slices images t) j Y) t.at.index X ≡ set (set (slices others t) j Y) t.at.index X
  same_with_two j reads X Y =
      same_set (set (slices images t) j Y) (set (slices others t) j Y) t.at.index X
      (length-set (slices images t) j Y ∙ even ∙ sym (length-set (slices others t) j Y)) (λ s d ne lt.
      let within : s < length (slices images t) = omega (arith, lt, length-set (slices images t) j Y) in
      set_alike (slices images t) (slices others t) j Y even s d within (λ ne_j. same_slice s d within (reads s ne ne_j)))

-- images that agree on the ranges of a candidate give it the same value
pub value_by_ranges : ValueByRanges
value_by_ranges images others t (Read part) agree = same_part images others t (Read part) agree part (inl refl)
value_by_ranges images others t ByP agree =
    let n = size_of t in
    let i = t.at.index in
    let same = same_with_one images others t ByP agree (λ s ne. not_other s i ne) in
    let p = same_part images others t ByP agree P (inl refl) in
    λ k. the_one n (λ X. bytes_eq (parity_p n (same X k)) (p k))
value_by_ranges images others t ByQ agree =
    let n = size_of t in
    let i = t.at.index in
    let same = same_with_one images others t ByQ agree (λ s ne. not_other s i ne) in
    let q = same_part images others t ByQ agree Q (inl refl) in
    λ k. the_one n (λ X. bytes_eq (parity_q n (same X k)) (q k))
value_by_ranges images others t (ByBoth j) agree =
    let n = size_of t in
    let i = t.at.index in
    let same = same_with_two images others t (ByBoth j) agree j (λ s ne ne_j. both _ _ (not_other s i ne) (not_other s j ne_j)) in
    let p = same_part images others t (ByBoth j) agree P (inl refl) in
    let q = same_part images others t (ByBoth j) agree Q (inr (inl refl)) in
    λ k. the_one n (λ X. list_any (λ Y. bytes_eq (parity_p n (same X Y k)) (p k) && bytes_eq (parity_q n (same X Y k)) (q k)) (byte_lists n))
