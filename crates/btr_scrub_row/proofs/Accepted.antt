-- The candidates of a block of a row, tried in their order.
use Rattle.std.proofs.Common.{◌≡◌, ◌≢◌, ◌⊎◌, ℕ, ◌+◌, ◌-◌, ◌<◌, ◌≤◌, ◌&&◌, ◌||◌, eqb, Bool, true, false, [], length, map, take, get_or, slice_get, Some, None}
use Rattle.std.proofs.Common.{Result, Ok, Err, IsOkAnd, IsSome, IsNone, is_some, refl, sym, ap, ◌∙◌, subst, inl, inr, arith}
use Rattle.btr_scrub_row.proofs.Common.{Candidate, HasPart, Images, IsSited, P, Part, Profile, Q, Raid6, Slice, SlicePiece, Target, candidates, data_count}
use Rattle.btr_scrub_row.proofs.Common.{filter, mirrors, range_of, range_with_len, reads_slice, same_Some, slice_get_within, value_of, ways, without_copies}
use Rattle.std.proofs.lemmas.Bool.{eqb-true}
use Rattle.std.proofs.lemmas.Option.{slice_get-get_or}
use Rattle.std.specs.List.{list_all}
use Rattle.btr_chunk.specs.Mapping.{IsPosition}
use Rattle.btr_chunk.specs.declared.profile.Profile.TheVariants as profile
use Rattle.btr_chunk.specs.declared.profile.Profile.TheVariants.{Raid5}
use Rattle.btr_read.specs.Candidates.{element, slice_count, stands}
use Rattle.btr_read.specs.Fate.{Fault}
use Rattle.btr_read.specs.Order.{IsWayAt}
use Rattle.btr_read.specs.Sought.{IsTwoParities}
use Rattle.btr_read.specs.Want.{passes}
use Rattle.btr_read.specs.declared.candidate.Candidate.TheVariants.{Read, ByP, ByQ, ByBoth}
use Rattle.btr_read.proofs.InOrder.{length-with_p_and_q, with_p, with_p_and_q}
use Rattle.btr_read.proofs.Standing.{all_read, both}
use Rattle.btr_read.specs.Trial.{passing_of}
use Rattle.btr_read.proofs.Ones.{In}
use Rattle.btr_read.proofs.Order.{in_candidates, length-candidates}
use Rattle.btr_read.proofs.Trials.{fails_where_none, first_then, none_of_all, none_then}
use Rattle.btr_scrub_copies.specs.Blocks.{accepted}
use Rattle.btr_scrub_row.specs.Memory.{IsGone, IsWayCount, IsWayOf, ReadsQ}

-- a profile has Q or not
pub has_q : (p : Profile) → (p ≡ Raid6) ⊎ (p ≢ Raid6)
has_q profile.Raid6 = inl refl
has_q p = inr (λ e. cc)

-- what a candidate within the number reads is there
pub q_there : {piece : SlicePiece} {count k : ℕ} {c : Candidate} → IsWayCount piece count → k < count → IsWayOf piece.index k c → ReadsQ c
    → piece.shape.profile ≡ Raid6
q_there {piece = piece} is lt at reads = elim (has_q piece.shape.profile) [
  | inl six ↦ six
  | inr five ↦ absurd (at.first (omega (arith, lt, is.five five)) reads)
]

-- the number of each way is below that of the slices plus two
pub in_count : {piece : SlicePiece} {count : ℕ} (k : ℕ) → IsWayCount piece count → 0 < piece.shape.slices → k < count → k < piece.shape.slices + 2
in_count {piece = piece} k is some lt = elim (has_q piece.shape.profile) [
  | inl six ↦ omega (arith, lt, is.six six)
  | inr five ↦ omega (arith, lt, is.five five, some)
]

-- what is said of what is sought
pub the_target : (r : Result Target Fault) (Fact : Target → Type 0) → IsOkAnd r Fact → (t : Target) × (r ≡ Ok t) × Fact t
the_target (Err fault) Fact h = absurd h
the_target (Ok t) Fact h = (t, refl, h)

-- the block's own place passes too
pub own_good : (good own : Bool) (way : ℕ) → own ≡ good → (way ≡ 0 → good ≡ true) → good ≡ ((eqb way 0) || own)
own_good good own way same zero = by (eqb way 0) refl
  where
    by : (b : Bool) → eqb way 0 ≡ b → good ≡ (b || own)
    by true e = zero (eqb-true way 0 e)
    by false e = sym same

-- ---- standing candidates

module _ (t : Target) (parity : mirrors t.chunk ≡ None) (stand : (part : Part) → HasPart t.chunk.profile (length t.chunk.stripes) part
    → IsSome (range_of t part)) where
  none : IsNone (mirrors t.chunk)
  none = subst IsNone (sym parity) refl

  -- each slice stands
  slice_stands : (s : ℕ) → s < slice_count t → IsSome (range_of t (Slice s))
  slice_stands s lt = stand (Slice s) (none, lt)

  -- so do all slices that a candidate reads
  slices_stand : (c : Candidate) → list_all (λ part. is_some (range_of t part))
      (map Slice (filter (reads_slice t.at.index c) (range_with_len 0 (slice_count t)))) ≡ true
  slices_stand c = all_read (λ part. is_some (range_of t part)) (reads_slice t.at.index c) (slice_count t) (λ s lt e. slice_stands s lt)

  -- a candidate stands where all parts of the row do, and it reads Q only where it is there
  pub stands_all : (c : Candidate) → t.at.index < slice_count t → IsTwoParities (slice_count t) t.at.index c → (ReadsQ c → t.chunk.profile ≡ Raid6)
      → stands t c ≡ true
  stands_all (Read part) lt is q = both (is_some (range_of t part)) true (subst (λ p. IsSome (range_of t p)) (sym is) (slice_stands t.at.index lt)) refl
  stands_all ByP lt is q = both (is_some (range_of t P)) _ (stand P none) (slices_stand ByP)
  stands_all ByQ lt is q = both (is_some (range_of t Q)) _ (stand Q (q tt)) (slices_stand ByQ)
  stands_all (ByBoth j) lt is q = both (is_some (range_of t P)) _ (stand P none) (both (is_some (range_of t Q)) _ (stand Q (q tt)) (slices_stand (ByBoth j)))

-- ---- the order

-- the slice that is sought is one of the row
slice_below : (t : Target) → IsPosition t.chunk t.at → t.chunk.profile ≡ Raid6 → t.at.index < data_count Raid6 (length t.chunk.stripes)
slice_below t h e = subst (λ p. t.at.index < data_count p (length t.chunk.stripes)) e h.index

module _ {t : Target} {piece : SlicePiece} (sited : IsSited piece t) {count : ℕ} (is : IsWayCount piece count) where
  -- the chunk is RAID5 or RAID6
  either : (t.chunk.profile ≡ Raid5) ⊎ (t.chunk.profile ≡ Raid6)
  either = without_copies t.chunk.profile (length t.chunk.stripes) sited.parity

  not_six : t.chunk.profile ≡ Raid5 → piece.shape.profile ≢ Raid6
  not_six five e = let never : Raid5 ≡ Raid6 = sym five ∙ sym sited.place.profile ∙ e in cc

  six : t.chunk.profile ≡ Raid6 → piece.shape.profile ≡ Raid6
  six e = sited.place.profile ∙ e

  index_below : t.at.index < slice_count t
  index_below = sited.position.index

  -- there are so many ways to get the block
  pub length-ways : length (ways t) ≡ count
  length-ways = elim either [
    | inl five ↦ ap length (with_p t five) ∙ sym (is.five (not_six five))
    | inr e ↦
        let n : slice_count t ≡ length t.chunk.stripes - 2 = ap (λ p. data_count p (length t.chunk.stripes)) e in
        ap length (with_p_and_q t e) ∙ length-with_p_and_q (length t.chunk.stripes - 2) t.at.index (slice_below t sited.position e)
        ∙ ap (λ m. m + 2) (sym n ∙ sym sited.place.slices) ∙ sym (is.six (six e))
  ]

  -- and so many candidates
  pub length-candidates_are : length (candidates t) ≡ count
  length-candidates_are = length-candidates t ∙ length-ways

  -- the block's own place is one of them
  own_way : In (Read (Slice t.at.index)) (ways t)
  own_way = elim either [
    | inl five ↦ subst (In (Read (Slice t.at.index))) (sym (with_p t five)) (inl refl)
    | inr e ↦ subst (In (Read (Slice t.at.index))) (sym (with_p_and_q t e)) (inl refl)
  ]

  -- the first way is the block's own place
  first_way : slice_get (ways t) 0 ≡ Some (Read (Slice t.at.index))
  first_way = elim either [
    | inl five ↦ ap (λ cs. slice_get cs 0) (with_p t five)
    | inr e ↦ ap (λ cs. slice_get cs 0) (with_p_and_q t e)
  ]

  -- the way of a number
  module _ {way : ℕ} (below : way < count) {c : Candidate} (at : IsWayOf piece.index way c) where
    at' : IsWayOf t.at.index way c
    at' = subst (λ i. IsWayOf i way c) sited.place.index at

    -- the candidate is the way of the number
    pub way_is : slice_get (ways t) way ≡ Some c
    way_is = elim either [
      | inl five ↦ ap (λ cs. slice_get cs way) (with_p t five) ∙ at'.one (length t.chunk.stripes - 1) (omega (arith, below, is.five (not_six five)))
      | inr e ↦
          let n : slice_count t ≡ length t.chunk.stripes - 2 = ap (λ p. data_count p (length t.chunk.stripes)) e in
          ap (λ cs. slice_get cs way) (with_p_and_q t e) ∙ at'.two (length t.chunk.stripes - 2) (slice_below t sited.position e)
          (omega (arith, below, is.six (six e), sited.place.slices, n))
    ]

    -- the parts that it reads are parts of the row
    pub parts_are : IsTwoParities (slice_count t) t.at.index c
    parts_are = at'.parts (slice_count t) index_below (omega
        (arith, in_count way is (omega (arith, index_below, sited.place.slices)) below, sited.place.slices))

    -- it reads Q only in RAID6
    pub q_is : ReadsQ c → t.chunk.profile ≡ Raid6
    q_is reads = sym sited.place.profile ∙ q_there is below at reads

    -- it stands where all parts of the row do
    pub way_stands : ((part : Part) → HasPart t.chunk.profile (length t.chunk.stripes) part → IsSome (range_of t part)) → stands t c ≡ true
    way_stands stand = stands_all t sited.parity stand c index_below parts_are q_is

  module _ (k way : ℕ) (lt : k < count) (order : IsWayAt k way t) where
    -- the way at a place in the order is one of the ways
    pub way_below : way < count
    way_below =
        let own : Candidate = Read (Slice t.at.index) in
        let there = slice_get-get_or (candidates t) k own (omega (arith, lt, length-candidates_are)) in
        omega (arith, slice_get_within (ways t) way (get_or (candidates t) k own) (order ∙ there), length-ways)

    module _ {c : Candidate} (at : IsWayOf piece.index way c) where
      -- the candidate stands at this place in the order
      candidate_is : slice_get (candidates t) k ≡ Some c
      candidate_is = sym order ∙ way_is way_below at

      module _ (stand : (part : Part) → HasPart t.chunk.profile (length t.chunk.stripes) part → IsSome (range_of t part)) where
        candidate_stands : stands t c ≡ true
        candidate_stands = way_stands way_below at stand

        -- one more that doesn't pass, or the first that does
        module _ (images : Images) (so_far : passing_of images t (take k (candidates t)) ≡ []) where
          -- where it doesn't pass, none up to it does
          pub tried_more : passes t.setting t.want (value_of images t c) ≡ false → passing_of images t (take (k + 1) (candidates t)) ≡ []
          tried_more test = none_then images t k c candidate_is (omega (arith, lt, length-candidates_are)) candidate_stands so_far test

          -- where it passes, its bytes are accepted
          pub one_accepted : passes t.setting t.want (value_of images t c) ≡ true → accepted images t ≡ Some (value_of images t c)
          one_accepted test = first_then images t k c candidate_is (omega (arith, lt, length-candidates_are)) candidate_stands so_far test

          -- the first way is the block's own place
          pub own_value : way ≡ 0 → value_of images t c ≡ element images t (Slice t.at.index)
          own_value z = ap (value_of images t) (same_Some c (Read (Slice t.at.index)) (sym (way_is way_below at) ∙ ap (slice_get (ways t)) z ∙ first_way))

  -- none passes
  pub none_accepted : (images : Images) (k : ℕ) → IsSome (range_of t (Slice t.at.index)) → count ≤ k → passing_of images t (take k (candidates t))
      ≡ [] → IsGone images t
  none_accepted images k stands le so_far =
      let none = none_of_all images t k (omega (arith, le, length-candidates_are)) so_far in
      record {
        bytes = ap (λ xs. slice_get xs 0) none;
        good = fails_where_none images t (Read (Slice t.at.index)) none
            (in_candidates t (Read (Slice t.at.index)) own_way) (ap (λ b. b && true) stands);
      }
