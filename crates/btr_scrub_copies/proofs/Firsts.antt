-- The first copy that passes, and what it is written over.
use Rattle.std.proofs.Common.{◌≡◌, ℕ, ◌+◌, ◌<◌, ◌&&◌, Bool, true, false, not, List, [], length, slice_get, take, Some, None, is_none, refl, sym, ap, ◌∙◌, subst}
use Rattle.btr_scrub_copies.proofs.Common.{Images, Mirror, Part, Target, bytes_eq, candidates, copy_writes, element, filter, flagged_copies, mended_copies}
use Rattle.btr_scrub_copies.proofs.Common.{mirrors, option_map_or, range_with_len, stands, with_copies, writes_if}
use Rattle.std.proofs.lemmas.Slice.Eq.{bytes_eq-Decides}
use Rattle.btr_read.specs.Fate.{passing}
use Rattle.btr_read.specs.Order.{IsWayAt}
use Rattle.btr_read.specs.Trial.{passing_of}
use Rattle.btr_read.proofs.Ones.{In, below_in, in_map}
use Rattle.btr_read.proofs.Order.{copy_in_order, in_candidates}
use Rattle.btr_read.proofs.Trials.{fails_where_none, first_then, none_then}
use Rattle.std.proofs.lemmas.Option.{slice_get_within}
use Rattle.btr_read.specs.declared.candidate.Candidate.TheVariants.{Read}
use Rattle.btr_scrub_copies.specs.Blocks.{accepted, are_accepted, bad_parts, block_writes, is_good, is_sound, written_over}
use Rattle.btr_scrub_copies.specs.Mending.{AreBad, IsTrustedCopy, mended_of}
use Rattle.btr_scrub_copies.proofs.Flags.{StandAll, own_are, copies, flagged_counts, flagged_written}
use Rattle.btr_scrub_copies.proofs.Lists.{each_of, filter_all}
use Rattle.std.proofs.lemmas.List.FromFn.{length-map-range_with_len}

module _ (images : Images) (t : Target) where
  abbrev good : ℕ → Bool
  good k = is_good images t (Mirror k)

  abbrev sound : ℕ → Bool
  sound k = is_sound images t (Mirror k)

  abbrev bad : Part → Bool
  bad part = not (is_sound images t part)

  -- a copy that doesn't pass isn't sound
  pub unsound : (m : ℕ) → good m ≡ false → sound m ≡ false
  unsound m fails = ap (λ b. b && are_accepted images t (element images t (Mirror m))) fails

  -- a place that has what is accepted is sound
  pub sound_place : (part : Part) (bytes : List ℕ) → accepted images t ≡ Some bytes → is_good images t part ≡ true → element images t part ≡ bytes
      → is_sound images t part ≡ true
  sound_place (Mirror copy) bytes is passes same =
      let own = element images t (Mirror copy) in
      ap (λ b. b && are_accepted images t own) passes ∙ ap (λ o. option_map_or (bytes_eq own) o false) is ∙ (bytes_eq-Decides own bytes).1 same
  sound_place part bytes is passes same = passes

  -- ---- the candidate at a place in the order

  module _ (n k m : ℕ) (has : mirrors t.chunk ≡ Some n) (lt : k < n) (at : IsWayAt k m t) (standing : stands t (Read (Mirror m)) ≡ true)
      (so_far : passing_of images t (take k (candidates t)) ≡ []) where
    -- the candidate reads the copy
    copy_is : slice_get (candidates t) k ≡ Some (Read (Mirror m))
    copy_is = (copy_in_order t n k m has lt at).1

    -- where the copy isn't good either, none of the candidates up to it passes
    pub first_differs : good m ≡ false → passing_of images t (take (k + 1) (candidates t)) ≡ []
    first_differs test = none_then images t k (Read (Mirror m)) copy_is (slice_get_within (candidates t) k (Read (Mirror m)) copy_is) standing so_far test

    -- where it is good, it is the first that passes
    pub first_passes : good m ≡ true → IsTrustedCopy images t m
    first_passes test = record {
      good = test;
      accepts = first_then images t k (Read (Mirror m)) copy_is
          (slice_get_within (candidates t) k (Read (Mirror m)) copy_is) standing so_far test;
    }

  -- ---- of n copies, which all stand

  module _ (n : ℕ) (has : mirrors t.chunk ≡ Some n) (stand : StandAll t n) where
    -- where no candidate passes, no copy is sound, nothing is accepted, and no write is made
    module _ (none : passing images t ≡ []) where
      -- no copy is sound
      none_sound : (k : ℕ) → k < n → sound k ≡ false
      none_sound k lt =
          let way = in_map (λ copy. Read (Mirror copy)) k (range_with_len 0 n) (below_in n k lt) in
          unsound k (fails_where_none images t (Read (Mirror k)) none (in_candidates t (Read (Mirror k))
          (subst (In (Read (Mirror k))) (sym (with_copies t n has)) way)) (ap (λ b. b && true) (stand k lt)))

      -- nothing is accepted
      accepts_none : accepted images t ≡ None
      accepts_none = ap (λ xs. slice_get xs 0) none

      -- all copies are bad
      all_bad : length (bad_parts images t) ≡ n
      all_bad = ap length (ap (filter bad) (own_are t n has)
          ∙ filter_all bad (copies n) (each_of Mirror (λ part. bad part ≡ true) n (λ k lt. ap not (none_sound k lt)))) ∙ length-map-range_with_len Mirror 0 n

      -- nothing is written
      pub none_written : (write : Bool) → [] ≡ writes_if write (block_writes images t)
      none_written true = sym (ap (λ o. option_map_or (written_over images t) o []) accepts_none)
      none_written false = refl

      -- all copies are counted as bad, and the block as lost
      pub counted_lost : (write : Bool) → record { bad = n; repaired = 0; lost = true } ≡ mended_of images t write
      counted_lost write = λ i. record { bad = sym all_bad i; repaired = length (none_written write i); lost = sym (ap is_none accepts_none) i }

    -- where bytes are accepted, and the flags of the bad copies are known
    module _ (bytes : List ℕ) (is : accepted images t ≡ Some bytes) {flags : List Bool} {count : ℕ} (are : AreBad images t n flags count) where
      -- they are written over the bad places
      writes_as : block_writes images t ≡ copy_writes t bytes (bad_parts images t)
      writes_as = ap (λ o. option_map_or (written_over images t) o []) is

      -- that is, over the copies that have a flag
      pub writes_are : copy_writes t bytes (flagged_copies flags n) ≡ block_writes images t
      writes_are = flagged_written t n has are (bad_parts images t) refl bytes (block_writes images t) writes_as

      -- they are counted, and the block isn't lost
      pub counts_are : (write : Bool) → mended_copies count write ≡ mended_of images t write
      counts_are write = flagged_counts t n has are (bad_parts images t) refl bytes (block_writes images t) writes_as stand write
          ∙ ap (λ l. record { bad = length (bad_parts images t); repaired = length (writes_if write (block_writes images t)); lost = l }) (sym (ap is_none is))
