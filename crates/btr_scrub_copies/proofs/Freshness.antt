-- The first copy of a plain sector that is trusted, and the stale ones beside it.
use Rattle.std.proofs.Common.{◌≡◌, ℕ, ◌<◌, ◌&&◌, ◌||◌, Bool, true, false, not, List, [], ◌++◌, length, map, Option, Some, None, IsSome, slice_get, append-nil}
use Rattle.std.proofs.Common.{refl, sym, ap, ◌∙◌, arith}
use Rattle.btr_scrub_copies.proofs.Common.{AreFlagged, Images, Mirror, Part, Target, bytes_eq, candidates, copy_writes, device_in, element, false≢true, filter}
use Rattle.btr_scrub_copies.proofs.Common.{flagged_copies, is_on_behind, is_on_doubtful, is_stale, mended_copies, mirrors, option_map_or, range_of}
use Rattle.btr_scrub_copies.proofs.Common.{range_with_len, stands, with_copies, writes_if}
use Rattle.std.specs.Bool.{beq}
use Rattle.std.specs.List.{list_any}
use Rattle.std.proofs.lemmas.List.Elements.{filter-append}
use Rattle.std.proofs.lemmas.List.Folds.{list_any_at, list_any_none}
use Rattle.std.proofs.lemmas.List.FromFn.{get_or-map-range_with_len, length-map-range_with_len, take-map-range_with_len}
use Rattle.std.proofs.lemmas.Option.{slice_get-get_or}
use Rattle.btr_chunk.specs.Mapping.{place_at}
use Rattle.btr_read.specs.Candidates.{among, is_on_older, parts_read, reads_older, slice_count, ways}
use Rattle.btr_read.specs.Mirror.{mirror_candidate}
use Rattle.btr_read.specs.declared.candidate.Candidate.{Candidate}
use Rattle.btr_read.specs.declared.candidate.Candidate.TheVariants.{Read}
use Rattle.btr_read.specs.declared.device.Device.{Device}
use Rattle.btr_scrub_copies.specs.Blocks.{own_parts}
use Rattle.btr_scrub_copies.specs.Fresh.{Failing, first_trusted, fresh, fresh_writes, freshened, is_trusted, lies_behind, reads_doubtful, stale_beside}
use Rattle.btr_scrub_copies.specs.Fresh.{stale_parts}
use Rattle.btr_scrub_copies.proofs.Flags.{StandAll, own_are, copies, flagged_counts, flagged_written}
use Rattle.btr_scrub_copies.proofs.Lists.{any_passes, each_of, filter_none, filter_twice, first_kept, none_kept}
use Rattle.btr_scrub_copies.proofs.Syncs.{passing_filter}

module _ (failing : Failing) (t : Target) where
  -- ---- no candidate that reads an older image is trusted

  -- a device whose image is older is in doubt
  doubtful_device : (o : Option Device) → option_map_or (λ device. device.older) o false ≡ true
      → option_map_or (λ device. device.older || failing device.slot) o false ≡ true
  doubtful_device None h = absurd (false≢true h)
  doubtful_device (Some device) h = ap (λ b. b || failing device.slot) h

  -- a part on an older image is on one in doubt
  older_doubtful : (part : Part) → is_on_older t part ≡ true → is_on_doubtful failing t part ≡ true
  older_doubtful part h = doubtful_device (device_in t.devices (place_at t.chunk part t.at).devid) h

  and_not : (a b : Bool) → b ≡ true → (a && not b) ≡ false
  and_not true true e = refl
  and_not true false e = absurd (false≢true e)
  and_not false b e = refl

  -- a candidate that reads an older image isn't trusted
  not_trusted : (c : Candidate) → reads_older t c ≡ true → is_trusted failing t c ≡ false
  not_trusted c h = and_not (stands t c) (reads_doubtful failing t c)
      (any_passes (is_on_older t) (is_on_doubtful failing t) (parts_read (slice_count t) t.at.index c) older_doubtful h)

  -- one that is trusted reads none
  trusted_new : (c : Candidate) → is_trusted failing t c ≡ true → beq (reads_older t c) false ≡ true
  trusted_new c h = by (reads_older t c) refl
    where
      by : (b : Bool) → reads_older t c ≡ b → beq b false ≡ true
      by true e = absurd (false≢true (sym (not_trusted c e) ∙ h))
      by false e = refl

  -- none of those that read an older image is trusted
  none_old : filter (is_trusted failing t) (among t true) ≡ []
  none_old = filter_none (is_trusted failing t) (among t true) (λ c i.
      not_trusted c (by (reads_older t c) (passing_filter (λ c. beq (reads_older t c) true) c (ways t) i).1))
    where
      by : (b : Bool) → beq b true ≡ true → b ≡ true
      by true e = refl
      by false e = e

  -- so the trusted ones come in the order of the profile
  pub trusted_ways : filter (is_trusted failing t) (candidates t) ≡ filter (is_trusted failing t) (ways t)
  trusted_ways = filter-append (is_trusted failing t) (among t false) (among t true)
      ∙ ap (λ cs. cs ++ filter (is_trusted failing t) (among t true))
      (filter_twice (is_trusted failing t) (λ c. beq (reads_older t c) false) (ways t) trusted_new)
      ∙ ap (λ cs. filter (is_trusted failing t) (ways t) ++ cs) none_old ∙ append-nil (filter (is_trusted failing t) (ways t))

  -- ---- of copies, which all stand

  -- a copy is trusted where it lies on no image in doubt
  trusted_copy : (k : ℕ) → IsSome (range_of t (Mirror k)) → (b : Bool) → is_on_doubtful failing t (Mirror k) ≡ b
      → is_trusted failing t (Read (Mirror k)) ≡ not b
  trusted_copy k some b e = ap (λ b. (b && true) && not (is_on_doubtful failing t (Mirror k) || false)) some ∙ ap (λ b. not (b || false)) e ∙ by b
    where
      by : (b : Bool) → not (b || false) ≡ not b
      by true = refl
      by false = refl

  module _ (n : ℕ) (has : mirrors t.chunk ≡ Some n) where
    -- the first n copies, each read alone
    abbrev reads : ℕ → List Candidate
    reads n = map (λ copy. Read (Mirror copy)) (range_with_len 0 n)

    -- where the first copies lie on images in doubt, none of them is trusted
    none_trusted : (n : ℕ) → StandAll t n → ((k : ℕ) → k < n → is_on_doubtful failing t (Mirror k) ≡ true) → filter (is_trusted failing t) (reads n) ≡ []
    none_trusted n stand all = filter_none (is_trusted failing t) (reads n) (each_of (λ copy. Read (Mirror copy))
        (λ c. is_trusted failing t c ≡ false) n (λ k lt. trusted_copy k (stand k lt) true (all k lt)))

    -- the first trusted candidate is the first trusted copy
    first_of_copies : first_trusted failing t ≡ slice_get (filter (is_trusted failing t) (reads n)) 0
    first_of_copies = ap (λ cs. slice_get cs 0) (trusted_ways ∙ ap (filter (is_trusted failing t)) (with_copies t n has))

    -- the first copy on no image in doubt is the first candidate that is trusted
    pub trusted_at : StandAll t n → (m : ℕ) → m < n → ((k : ℕ) → k < m → is_on_doubtful failing t (Mirror k) ≡ true)
        → is_on_doubtful failing t (Mirror m) ≡ false → first_trusted failing t ≡ Some (mirror_candidate m)
    trusted_at stand m lt before is =
        let f = λ (copy : ℕ). mirror_candidate copy in
        first_of_copies ∙ first_kept (is_trusted failing t) (reads n) m (mirror_candidate m)
        (slice_get-get_or (reads n) m (mirror_candidate m) (omega (arith, lt, length-map-range_with_len f 0 n))
        ∙ ap Some (get_or-map-range_with_len f 0 n m m (mirror_candidate m) lt (omega arith)))
        (ap (filter (is_trusted failing t)) (take-map-range_with_len f 0 n m (omega (arith, lt)))
        ∙ none_trusted m (λ k l. stand k (omega (arith, l, lt))) before) (trusted_copy m (stand m lt) false is)

    -- where all copies lie on images in doubt, no candidate is trusted
    pub trusted_none : StandAll t n → ((k : ℕ) → k < n → is_on_doubtful failing t (Mirror k) ≡ true) → first_trusted failing t ≡ None
    trusted_none stand all = first_of_copies ∙ ap (λ cs. slice_get cs 0) (none_trusted n stand all)

    -- some copy lies on an image that is behind, or none does
    pub behind_at : (m : ℕ) → m < n → is_on_behind failing t (Mirror m) ≡ true → lies_behind failing t ≡ true
    behind_at m lt is = ap (list_any (is_on_behind failing t)) (own_are t n has)
        ∙ list_any_at (is_on_behind failing t) (copies n) m (Mirror m) (omega (arith, lt, length-map-range_with_len Mirror 0 n))
        (ap (is_on_behind failing t) (get_or-map-range_with_len Mirror 0 n m m (Mirror m) lt (omega arith)) ∙ is)

    -- where no copy lies on an image that is behind, the sector doesn't
    pub behind_none : ((k : ℕ) → k < n → is_on_behind failing t (Mirror k) ≡ false) → lies_behind failing t ≡ false
    behind_none none = ap (list_any (is_on_behind failing t)) (own_are t n has)
        ∙ list_any_none (is_on_behind failing t) (copies n) (λ k d lt.
        let below : k < n = omega (arith, lt, length-map-range_with_len Mirror 0 n) in
        ap (is_on_behind failing t) (get_or-map-range_with_len Mirror 0 n k k d below (omega arith)) ∙ none k below)

-- ---- what is written, and counted

module _ (images : Images) (failing : Failing) (t : Target) where
  -- where no image is behind, no place is stale
  pub none_stale : lies_behind failing t ≡ false → stale_parts images failing t ≡ []
  none_stale none = by (fresh images failing t)
    where
      by : (o : Option (List ℕ)) → option_map_or (stale_beside images failing t) o [] ≡ []
      by None = refl
      by (Some bytes) = none_kept (is_on_behind failing t) (is_stale images failing t bytes) (own_parts t) none
          (λ part e. ap (λ b. b && not (bytes_eq (element images t part) bytes)) e)

  -- nor where no bytes are fresh
  pub none_fresh : fresh images failing t ≡ None → stale_parts images failing t ≡ []
  none_fresh e = ap (λ o. option_map_or (stale_beside images failing t) o []) e

  -- then nothing is written, and nothing counted
  module _ (none : stale_parts images failing t ≡ []) where
    no_writes : fresh_writes images failing t ≡ []
    no_writes = ap (λ parts. option_map_or (λ bytes. copy_writes t bytes parts) (fresh images failing t) []) none ∙ by (fresh images failing t)
      where
        by : (o : Option (List ℕ)) → option_map_or (λ bytes. copy_writes t bytes []) o [] ≡ []
        by None = refl
        by (Some bytes) = refl

    -- no write brings it up to date, whether it is written or only read
    pub unstale_writes : (write : Bool) → [] ≡ writes_if write (fresh_writes images failing t)
    unstale_writes true = sym no_writes
    unstale_writes false = refl

    -- nothing is counted of it
    pub unstale_counts : (write : Bool) → record { bad = 0; repaired = 0; lost = false } ≡ freshened images failing t write
    unstale_counts write =
        ap (λ parts. record { bad = length parts; repaired = 0; lost = false }) (sym none)
        ∙ ap (λ ws. record { bad = length (stale_parts images failing t); repaired = length ws; lost = false }) (unstale_writes write)

  -- where the fresh bytes are known, and the flags of the stale copies
  module _ (n : ℕ) (has : mirrors t.chunk ≡ Some n) (bytes : List ℕ) (is : fresh images failing t ≡ Some bytes) {flags : List Bool} {count : ℕ}
      (are : AreFlagged (is_stale images failing t bytes) n flags count) where
    -- the stale places are those that are so beside them
    parts_are : stale_parts images failing t ≡ stale_beside images failing t bytes
    parts_are = ap (λ o. option_map_or (stale_beside images failing t) o []) is

    -- the fresh bytes are written over them
    writes_as : fresh_writes images failing t ≡ copy_writes t bytes (stale_parts images failing t)
    writes_as = ap (λ o. option_map_or (λ bytes. copy_writes t bytes (stale_parts images failing t)) o []) is

    -- that is, over the copies that have a flag
    pub stale_written : copy_writes t bytes (flagged_copies flags n) ≡ fresh_writes images failing t
    stale_written = flagged_written t n has are (stale_parts images failing t) parts_are bytes (fresh_writes images failing t) writes_as

    -- what is counted
    pub stale_counts : StandAll t n → (write : Bool) → mended_copies count write ≡ freshened images failing t write
    stale_counts = flagged_counts t n has are (stale_parts images failing t) parts_are bytes (fresh_writes images failing t) writes_as
