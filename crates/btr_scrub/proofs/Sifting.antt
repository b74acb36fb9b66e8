-- Blocks that are left out, as nothing may have to be written for them, change neither the writes nor the counts.
use Rattle.std.proofs.Common.{IsSome, ◌≡◌, ◌⊎◌, ℕ, ◌+◌, Bool, true, false, not, cond, ◌&&◌, ◌||◌, eqb, ltb, ◌/◌, List, [], ◌∷◌, ◌++◌, map, length, subst}
use Rattle.std.proofs.Common.{Option, Some, None, is_none, Result, Ok, Err, refl, sym, ap, ◌∙◌, inl, inr, arith}
use Rattle.std.proofs.Math.Path.{fun_ext}
use Rattle.btr_scrub.proofs.Common.{Chunk, Failing, Fault, Images, In, IsSought, IsTable, Layout, MendedRow, Mirror, Part, Row, Target, Want, accepted}
use Rattle.btr_scrub.proofs.Common.{all_count_for, all_writes_for, and_from, and_parts, bad_parts, begun, block_writes, chunk_writes_for, cons_option}
use Rattle.btr_scrub.proofs.Common.{copy_writes, eq-eqb, eqb-true, failing, fails_at, fails_on, false_from_ne_true, false≢true, filter, flagged, flat_map}
use Rattle.btr_scrub.proofs.Common.{fresh_writes, has_older, is_checked, is_copy_needed, is_good, is_in_chunk, is_in_row, is_lost_block, is_needed, is_plain}
use Rattle.btr_scrub.proofs.Common.{is_row_needed, is_sound, list_any, list_any-false, ltb-false, mended_row, mending_writes, mirrors, ok_or_none}
use Rattle.btr_scrub.proofs.Common.{option_map_or, or_parts, own_parts, parities, parity_writes, passing_filter, range_with_len, row_of, row_writes, rows_count}
use Rattle.btr_scrub.proofs.Common.{rows_in, rows_writes, sites_count, sites_writes, sought, stale_parts, stood, stripe_length, sum_by, sum_by-cons, targets}
use Rattle.btr_scrub.proofs.Common.{wrong_parts}
use Rattle.std.proofs.lemmas.Bool.{not-false}
use Rattle.std.specs.List.{count_by, fold}
use Rattle.btr_read.specs.Candidates.{element}
use Rattle.btr_scrub_copies.specs.Blocks.{are_accepted, is_lost}
use Rattle.btr_scrub.specs.Doubts.{is_on}
use Rattle.btr_scrub.specs.Sifting.{KeptCounts, KeptWrites, is_troubled, is_unsound, kept_of, left_out, needs, row_among}
use Rattle.btr_scrub.proofs.AcrossChunks.{sum_same}
use Rattle.btr_scrub.proofs.Blockwise.{target_sought}
use Rattle.btr_scrub.proofs.Inert.{inert_chunk, none_fresh, none_stale}
use Rattle.btr_scrub.proofs.Doubting.{passes_plain}
use Rattle.btr_scrub.proofs.Lists.{at_in, in_filter, none_in, flat_none, in_some}
use Rattle.btr_scrub.proofs.NextRow.{empty_writes}
use Rattle.btr_scrub.proofs.RowAgreeing.{RowAlike, beside, checked_row, flat_same, row_writes_alike, flat_mapped}
use Rattle.btr_scrub.proofs.RowNumbers.{IsParityChunk, same_start}
use Rattle.btr_scrub.proofs.Sums.{sum_filter, sum_flat, sum_map, sum_zero, sum_add}
use Rattle.btr_scrub.proofs.Tallying.{counts_are, counts_of, lost_sum, parity_in, parity_none, same_tally}
use Rattle.std.proofs.Math.Bool.{and-false}
use Rattle.std.proofs.lemmas.List.{nil_from_length}
use Rattle.std.proofs.lemmas.List.Sums.{length-filter}
use Rattle.btr_scrub.proofs.Grouping.{filter_none}
use Rattle.btr_scrub.proofs.Sieving.{needed_copy, needed_row}

-- ---- lists of which some are left out

module _ {X : Type 0} (q : X → Bool) where
  -- what is added up member by member is the same without those that add nothing
  without : {Y : Type 0} (add : X → Y → Y) (all : List X → Y) → ((x : X) (xs : List X) → all (x ∷ xs) ≡ add x (all xs)) → (xs : List X)
      → ((x : X) → In x xs → q x ≡ false → (y : Y) → add x y ≡ y) → all (filter q xs) ≡ all xs
  without add all step [] h = refl
  without add all step (x ∷ xs) h = by (q x) refl (without add all step xs (λ y i. h y (inr i)))
    where
      by : (b : Bool) → q x ≡ b → all (filter q xs) ≡ all xs → all (cond b (x ∷ filter q xs) (filter q xs)) ≡ all (x ∷ xs)
      by true e rest = step x (filter q xs) ∙ ap (add x) rest ∙ sym (step x xs)
      by false e rest = rest ∙ sym (step x xs ∙ h x (inl refl) e (all xs))

  -- what passes another test is kept
  filter_both : (p : X → Bool) (xs : List X) → ((x : X) → In x xs → p x ≡ true → q x ≡ true) → filter p (filter q xs) ≡ filter p xs
  filter_both p xs h = without (λ x ys. cond (p x) (x ∷ ys) ys) (filter p) (λ x ys. refl) xs (λ x i e ys. by x (p x) e (h x i) ys)
    where
      by : (x : X) (b : Bool) → q x ≡ false → (b ≡ true → q x ≡ true) → (ys : List X) → cond b (x ∷ ys) ys ≡ ys
      by x true e h ys = absurd (false≢true (sym e ∙ h refl))
      by x false e h ys = refl

  -- what is left out gives nothing
  flat_both : {Y : Type 0} (f : X → List Y) (p : X → Bool) (xs : List X) → ((x : X) → In x xs → q x ≡ false → f x ≡ [])
      → flat_map f (filter p (filter q xs)) ≡ flat_map f (filter p xs)
  flat_both {Y} f p xs h = without (λ x ys. cond (p x) (f x) [] ++ ys) (λ ys. flat_map f (filter p ys)) (λ x ys. by x ys (p x)) xs
      (λ x i e ys. ap (λ z. cond (p x) z [] ++ ys) (h x i e) ∙ none (p x) ys)
    where
      by : (x : X) (ys : List X) (b : Bool) → flat_map f (cond b (x ∷ filter p ys) (filter p ys)) ≡ cond b (f x) [] ++ flat_map f (filter p ys)
      by x ys true = refl
      by x ys false = refl

      none : (b : Bool) (ys : List Y) → cond b [] [] ++ ys ≡ ys
      none true ys = refl
      none false ys = refl

  -- or isn't so
  any_both : (g : X → Bool) (xs : List X) → ((x : X) → In x xs → q x ≡ false → g x ≡ false) → list_any g (filter q xs) ≡ list_any g xs
  any_both g xs h = without (λ x b. g x || b) (list_any g) (λ x ys. refl) xs (λ x i e b. ap (λ c. c || b) (h x i e))

  -- or adds nothing
  sum_both : (f : X → ℕ) (xs : List X) → ((x : X) → In x xs → q x ≡ false → f x ≡ 0) → sum_by f (filter q xs) ≡ sum_by f xs
  sum_both f xs h = without (λ x n. f x + n) (sum_by f) (sum_by-cons f) xs (λ x i e n. omega (arith, h x i e))

  -- those of a kind are those that are kept, and the others
  length_both : (p : X → Bool) (xs : List X) → count_by (λ x. p x && not (q x)) xs + length (filter p (filter q xs)) ≡ length (filter p xs)
  length_both p xs =
      let out = λ (x : X). cond (p x && not (q x)) 1 0 in
      let kept = λ (x : X). cond (q x) (cond (p x) 1 0) 0 in
      ap (λ n. sum_by out xs + n) (length-filter p (filter q xs) ∙ sum_filter (λ x. cond (p x) 1 0) q xs)
      ∙ sym (sum_add out kept xs) ∙ sum_same (λ x. out x + kept x) (λ x. cond (p x) 1 0) xs (λ x i. by (p x) (q x)) ∙ sym (length-filter p xs)
    where
      by : (b c : Bool) → ◌≡◌ {A = ℕ} (cond (b && not c) 1 0 + cond c (cond b 1 0) 0) (cond b 1 0)
      by true true = refl
      by true false = refl
      by false true = refl
      by false false = refl

-- no member of a list passes a test that none does
none_left : {X : Type 0} (p : X → Bool) (xs : List X) → filter p xs ≡ [] → (x : X) → In x xs → p x ≡ false
none_left p xs e x i = false_from_ne_true (p x) (λ h. subst (In x) e (in_filter p x xs i h))

-- ---- a full stripe in which nothing may have to be written

-- where a sum is nothing, so is each number
zero_each : {X : Type 0} (f : X → ℕ) (xs : List X) → sum_by f xs ≡ 0 → (x : X) → In x xs → f x ≡ 0
zero_each f [] e x i = absurd i
zero_each f (y ∷ ys) e x (inl same) = ap f (sym same) ∙ omega (arith, e, sum_by-cons f y ys)
zero_each f (y ∷ ys) e x (inr i) = zero_each f ys (omega (arith, e, sum_by-cons f y ys)) x i

-- what isn't above nothing is nothing
no_zero : (n : ℕ) → ltb 0 n ≡ false → n ≡ 0
no_zero n e = omega (arith, ltb-false 0 n e)

-- what counts as nothing doesn't pass
none_one : (b : Bool) → ◌≡◌ {A = ℕ} (cond b 1 0) 0 → b ≡ false
none_one true e = absurd (omega (arith, e))
none_one false e = refl

-- a block that isn't bad has nothing to write
sound_block : (images : Images) (t : Target) (fails : Failing) → is_plain t.want ≡ false → bad_parts images t ≡ [] → mending_writes images fails t ≡ []
sound_block images t fails checked sound = ap (λ b. cond b (fresh_writes images fails t) (block_writes images t)) checked
    ∙ ap (λ ps. option_map_or (λ bytes. copy_writes t bytes ps) (accepted images t) []) sound ∙ by (accepted images t)
  where
    by : (o : Option (List ℕ)) → option_map_or (λ bytes. copy_writes t bytes []) o [] ≡ []
    by None = refl
    by (Some bytes) = refl

module _ (images : Images) (layout : Layout) (row : Row) (out : is_row_needed images layout row ≡ false) where
  -- what would come of mending it without a write
  abbrev mended : MendedRow
  mended = mended_row images layout row false

  -- it has no plain sector, and no trouble
  parts : (list_any (λ (t : Target). is_plain t.want) row.blocks ≡ false) × (is_troubled mended ≡ false)
  parts = or_parts (list_any (λ (t : Target). is_plain t.want) row.blocks) (is_troubled mended) out

  -- no place of a block is bad and no block lost, and no parity has a write
  right : ((ltb 0 mended.bad || ltb 0 mended.lost) ≡ false) × (ltb 0 mended.parity ≡ false)
  right = or_parts (ltb 0 mended.bad || ltb 0 mended.lost) (ltb 0 mended.parity) parts.1

  -- it has no sector without a checksum
  no_plain : (t : Target) → In t row.blocks → is_plain t.want ≡ false
  no_plain t i = none_in (λ (t : Target). is_plain t.want) row.blocks t parts.0 i

  -- no place of a block is bad, and none is lost
  row_sound : (t : Target) → In t row.blocks → (bad_parts images t ≡ []) × (is_lost images t ≡ false)
  row_sound t i =
      let both = or_parts (ltb 0 mended.bad) (ltb 0 mended.lost) right.0 in
      let bad = zero_each (λ (t : Target). length (wrong_parts images row.failing t)) row.blocks (no_zero mended.bad both.0) t i in
      let lost = zero_each (λ (t : Target). cond (is_lost_block images t) 1 0) row.blocks (no_zero mended.lost both.1) t i in (
        sym (ap (λ b. cond b (stale_parts images row.failing t) (bad_parts images t)) (no_plain t i)) ∙ nil_from_length (wrong_parts images row.failing t) bad,
        sym (ap (λ b. not b && is_lost images t) (no_plain t i)) ∙ none_one (is_lost_block images t) lost,
      )

  -- nothing is written of a parity
  no_parity : (q : Part) → In q (parities row.chunk.profile) → parity_writes images layout row q ≡ []
  no_parity q i = nil_from_length (parity_writes images layout row q)
      (zero_each (λ q. length (parity_writes images layout row q)) (parities row.chunk.profile) (no_zero mended.parity right.1) q i)

  -- nothing is written in it, and no parity counted, whatever images fail
  module _ (also : Failing) (none : mirrors row.chunk ≡ None) where
    -- it is the same beside other images that fail
    alike : RowAlike images images layout row also
    alike = checked_row images layout row also none no_plain

    -- so nothing is written for it
    quiet_writes : row_writes images layout (beside also row) ≡ []
    quiet_writes =
        row_writes_alike images images layout row also alike
        ∙ ap (λ ws. ws ++ flat_map (parity_writes images layout row) (parities row.chunk.profile))
        (flat_none (mending_writes images row.failing) row.blocks (λ t i. sound_block images t row.failing (no_plain t i) (row_sound t i).0))
        ∙ flat_none (parity_writes images layout row) (parities row.chunk.profile) no_parity

    -- and no parity is counted
    quiet_parity : sum_by (λ q. length (parity_writes images layout (beside also row) q)) (parities row.chunk.profile) ≡ 0
    quiet_parity = sum_zero (λ q. length (parity_writes images layout (beside also row) q)) (parities row.chunk.profile)
        (λ q i. ap length (alike.parities q i ∙ no_parity q i))

-- ---- one that is left out

module _ (images : Images) (layout : Layout) (table : IsTable layout.chunks) (ts : List Target) (t : Target) (i : In t ts) (is : IsSought layout t) (
    out : is_needed images layout ts t ≡ false) where
  -- with copies
  copied_out : (n : ℕ) → mirrors t.chunk ≡ Some n → is_copy_needed images layout t ≡ false
  copied_out n e = sym (needed_copy images layout t ts (subst IsSome (sym e) refl)) ∙ out

  -- with parity
  module _ (parity : mirrors t.chunk ≡ None) where
    -- its row isn't needed, where there is parity
    row_out : is_row_needed images layout (row_among ts t) ≡ false
    row_out = sym (needed_row images layout t ts t.chunk t.at.row refl refl parity) ∙ out

    -- it is one of its row
    in_own : In t (row_among ts t).blocks
    in_own = in_filter (is_in_row t.chunk t.at.row) t ts i
        (and_from (is_in_chunk t.chunk t) (eqb t.at.row t.at.row) (eq-eqb t.chunk.start t.chunk.start refl) (eq-eqb t.at.row t.at.row refl))

  -- a plain sector lies in a chunk with copies without an older image
  module _ (bare : is_plain t.want ≡ true) where
    -- a sector without a checksum that isn't needed has copies, and no older image
    copied : (n : ℕ) × (mirrors t.chunk ≡ Some n) × (has_older layout.devices t.chunk ≡ false)
    copied = by (mirrors t.chunk) refl
      where
        by : (o : Option ℕ) → mirrors t.chunk ≡ o → (n : ℕ) × (mirrors t.chunk ≡ Some n) × (has_older layout.devices t.chunk ≡ false)
        by None e = absurd (false≢true (sym (no_plain images layout (row_among ts t) (row_out e) t (in_own e)) ∙ bare))
        by (Some n) e = (n, e, sym (ap (λ b. cond b (has_older layout.devices t.chunk) (is_unsound images t)) bare) ∙ copied_out n e)

  -- a sound block
  module _ (checked : is_plain t.want ≡ false) where
    -- no place of it is bad, and it isn't lost
    sound : (bad_parts images t ≡ []) × (is_lost images t ≡ false)
    sound = by (mirrors t.chunk) refl
      where
        by : (o : Option ℕ) → mirrors t.chunk ≡ o → (bad_parts images t ≡ []) × (is_lost images t ≡ false)
        by None e = row_sound images layout (row_among ts t) (row_out e) t (in_own e)
        by (Some n) e =
            let both = or_parts (ltb 0 (length (bad_parts images t))) (is_lost images t)
            (sym (ap (λ b. cond b (has_older layout.devices t.chunk) (is_unsound images t)) checked) ∙ copied_out n e) in
            (nil_from_length (bad_parts images t) (no_zero (length (bad_parts images t)) both.0), both.1)

    -- and it fails on no image at a place of its own
    sound_good : (slot : ℕ) (part : Part) → In part (own_parts t) → fails_at images t slot part ≡ false
    sound_good slot part i =
        let whole = good part (not-false (is_sound images t part) (none_left (λ part. not (is_sound images t part)) (own_parts t) sound.0 part i)) in
        ap (λ b. is_on t slot part && not b) whole ∙ and-false (is_on t slot part)
      where
        -- a sound place is good
        good : (part : Part) → is_sound images t part ≡ true → is_good images t part ≡ true
        good (Mirror k) e = (and_parts (is_good images t (Mirror k)) (are_accepted images t (element images t (Mirror k))) e).0
        good part e = e

  -- so nothing comes of it
  record ComesToNothing : Type 0 where
    writes : (fails : Failing) → mending_writes images fails t ≡ []
    wrong : (fails : Failing) → wrong_parts images fails t ≡ []
    lost : is_lost_block images t ≡ false
    good : (slot : ℕ) (part : Part) → In part (own_parts t) → fails_at images t slot part ≡ false

  -- whether it has a checksum or not
  nothing_comes : ComesToNothing
  nothing_comes = by (is_plain t.want) refl
    where
      by : (b : Bool) → is_plain t.want ≡ b → ComesToNothing
      by true e =
          let c = copied e in
          let inert = λ (fails : Failing). inert_chunk fails layout.devices t.chunk c.2 in
          record {
            writes = λ fails. ap (λ b. cond b (fresh_writes images fails t) (block_writes images t)) e
                ∙ none_fresh fails layout t c.0 table is c.1 (inert fails) images;
            wrong = λ fails. ap (λ b. cond b (stale_parts images fails t) (bad_parts images t)) e
                ∙ none_stale fails layout t c.0 table is c.1 (inert fails) images;
            lost = ap (λ b. not b && is_lost images t) e;
            good = λ slot part i. ap (λ b. is_on t slot part && not b) (passes_plain t.setting t.want (element images t part) e)
                ∙ and-false (is_on t slot part);
          }
      by false e = record {
        writes = λ fails. sound_block images t fails e (sound e).0;
        wrong = λ fails. ap (λ b. cond b (stale_parts images fails t) (bad_parts images t)) e ∙ (sound e).0;
        lost = ap (λ b. not b && is_lost images t) e ∙ (sound e).1;
        good = sound_good e;
      }

  -- so it fails on no image
  out_good : (slot : ℕ) → fails_on images slot t ≡ false
  out_good slot = list_any-false (fails_at images t slot) (own_parts t) (λ k part e. nothing_comes.good slot part (in_some part (own_parts t) k e))

-- ---- all

module _ (images : Images) (layout : Layout) (table : IsTable layout.chunks) (wants : List Want) where
  abbrev ts : List Target
  ts = targets layout wants

  -- whether a block is needed among all
  abbrev needed : Target → Bool
  needed = is_needed images layout ts

  -- the blocks that are needed
  abbrev us : List Target
  us = filter needed ts

  -- each block is at the position that its want has
  placed : (t : Target) → In t ts → IsSought layout t
  placed t i = target_sought layout wants t i

  -- the blocks of the wants that are kept are those that are needed
  targets_kept : (ws : List Want) → targets layout (filter (needs images layout ts) ws) ≡ filter needed (targets layout ws)
  targets_kept [] = refl
  targets_kept (w ∷ ws) = by (sought layout w) refl (targets_kept ws)
    where
      ks : List Want
      ks = filter (needs images layout ts) ws

      -- so it is with one want more, whether it has a position or not
      by : (r : Result Target Fault) → sought layout w ≡ r → targets layout ks ≡ filter needed (targets layout ws)
          → targets layout (cond (option_map_or needed (ok_or_none r) true) (w ∷ ks) ks) ≡ filter needed (cons_option (ok_or_none r) (targets layout ws))
      by (Err f) e rest = ap (λ r. cons_option (ok_or_none r) (targets layout ks)) e ∙ rest
      by (Ok t) e rest = of (needed t)
        where
          of : (b : Bool) → targets layout (cond b (w ∷ ks) ks) ≡ cond b (t ∷ filter needed (targets layout ws)) (filter needed (targets layout ws))
          of true = ap (λ r. cons_option (ok_or_none r) (targets layout ks)) e ∙ ap (λ us. t ∷ us) rest
          of false = rest

  -- the wants that are kept
  abbrev ks : List Want
  ks = kept_of images layout wants

  -- so it is with all
  kept_are : targets layout ks ≡ us
  kept_are = targets_kept wants

  -- the same images fail
  same_failing : failing images us ≡ failing images ts
  same_failing = fun_ext (λ slot. any_both needed (fails_on images slot) ts (λ t i e. out_good images layout table ts t i (placed t i) e slot))

  module _ (fails : Failing) where
    -- a full stripe has the same blocks, or none and nothing comes of it
    module _ (chunk : Chunk) (i : In chunk layout.chunks) (parity : mirrors chunk ≡ None) (k : ℕ) where
      -- the chunk is one of the table's, with parity
      of : IsParityChunk layout (at_in chunk layout.chunks i).0 chunk
      of = record { table = table; there = (at_in chunk layout.chunks i).1; parity = parity }

      -- a block of the row is needed where the row is
      as_row : (t : Target) → In t ts → is_in_row chunk k t ≡ true → needed t ≡ is_row_needed images layout (row_of (flagged []) ts chunk k)
      as_row t j e =
          let both = and_parts (is_in_chunk chunk t) (eqb t.at.row k) e in
          needed_row images layout t ts chunk k (same_start of t (placed t j) both.0) (eqb-true t.at.row k both.1) parity

      -- so the row has all its blocks, or none of them and isn't needed
      same_or_none : (filter (is_in_row chunk k) us ≡ filter (is_in_row chunk k) ts)
          ⊎ ((filter (is_in_row chunk k) us ≡ []) × (is_row_needed images layout (row_of (flagged []) ts chunk k) ≡ false))
      same_or_none = by (is_row_needed images layout (row_of (flagged []) ts chunk k)) refl
        where
          -- a block that is needed isn't in a row all of whose blocks aren't
          none : (t : Target) → needed t ≡ true → (b : Bool) → is_in_row chunk k t ≡ b → (b ≡ true → needed t ≡ false) → b ≡ false
          none t is true e out = absurd (false≢true (sym (out refl) ∙ is))
          none t is false e out = refl

          by : (b : Bool) → is_row_needed images layout (row_of (flagged []) ts chunk k) ≡ b → (filter (is_in_row chunk k) us ≡ filter (is_in_row chunk k) ts)
              ⊎ ((filter (is_in_row chunk k) us ≡ []) × (is_row_needed images layout (row_of (flagged []) ts chunk k) ≡ false))
          by true e = inl (filter_both needed (is_in_row chunk k) ts (λ t j in_it. as_row t j in_it ∙ e))
          by false e = inr (
            filter_none (is_in_row chunk k) us (λ t j.
                let p = passing_filter needed t ts j in
                none t p.1 (is_in_row chunk k t) refl (λ in_it. as_row t p.0 in_it ∙ e)),
            e,
          )

      -- what comes of a row comes of it without the others
      same_row : {X : Type 0} (of : Row → X) (nothing : X) → ((row : Row) → row.blocks ≡ [] → of row ≡ nothing)
          → (is_row_needed images layout (row_of (flagged []) ts chunk k) ≡ false → of (row_of fails ts chunk k) ≡ nothing)
          → of (row_of fails us chunk k) ≡ of (row_of fails ts chunk k)
      same_row of nothing empty quiet = elim same_or_none [
        | inl same ↦ ap (λ bs. of (record { chunk = chunk; number = k; blocks = bs; failing = fails })) same
        | inr none ↦ empty (row_of fails us chunk k) none.0 ∙ sym (quiet none.1)
      ]

    -- the same is written in each chunk
    same_writes : (chunk : Chunk) → In chunk layout.chunks → chunk_writes_for fails layout chunk ks images ≡ chunk_writes_for fails layout chunk wants images
    same_writes chunk i =
        ap (λ vs. cond (is_none (mirrors chunk)) (rows_writes layout (rows_in fails vs chunk) images)
        (sites_writes fails (filter (is_in_chunk chunk) vs) images)) kept_are
        ∙ ap (λ ws. cond (is_none (mirrors chunk)) ws (sites_writes fails (filter (is_in_chunk chunk) us) images)) (by (mirrors chunk) refl)
        ∙ ap (λ ws. cond (is_none (mirrors chunk)) (rows_writes layout (rows_in fails ts chunk) images) ws)
        (flat_both needed (mending_writes images fails) (is_in_chunk chunk) ts
        (λ t i e. (nothing_comes images layout table ts t i (placed t i) e).writes fails))
      where
        -- the numbers of the chunk's rows
        n : List ℕ
        n = range_with_len 0 (stripe_length chunk / 65536)

        -- the rows of a chunk are written alike
        by : (o : Option ℕ) → mirrors chunk ≡ o → rows_writes layout (cond (is_none o) (map (row_of fails us chunk) n) []) images ≡ rows_writes layout
            (cond (is_none o) (map (row_of fails ts chunk) n) []) images
        by None e = flat_mapped (row_writes images layout) (row_writes images layout) (row_of fails us chunk) (row_of fails ts chunk) n
            (λ k j. same_row chunk i e k (row_writes images layout) [] (λ row e. empty_writes images layout row e)
            (λ out. quiet_writes images layout (row_of (flagged []) ts chunk k) out fails e))
        by (Some m) e = refl

    -- the same is written in all
    all_writes : all_writes_for fails layout layout.chunks ks images ≡ all_writes_for fails layout layout.chunks wants images
    all_writes = flat_same (λ chunk. chunk_writes_for fails layout chunk ks images)
        (λ chunk. chunk_writes_for fails layout chunk wants images) layout.chunks same_writes

    module _ (write : Bool) (unchecked : ℕ) where
      -- how many checked blocks are left out
      abbrev left : ℕ
      left = left_out images layout wants

      -- what the parities of a row add to the count
      abbrev parity_counted : Row → ℕ
      parity_counted = parity_in fails images layout write us

      -- the same parities are counted
      parity_same : sum_by parity_counted (flat_map (rows_in fails us) layout.chunks) ≡ sum_by parity_counted (flat_map (rows_in fails ts) layout.chunks)
      parity_same =
          sum_flat parity_counted (rows_in fails us) layout.chunks
          ∙ sum_same (λ chunk. sum_by parity_counted (rows_in fails us chunk)) (λ chunk. sum_by parity_counted (rows_in fails ts chunk)) layout.chunks
          (λ chunk i. by chunk i (mirrors chunk) refl)
          ∙ sym (sum_flat parity_counted (rows_in fails ts) layout.chunks)
        where
          -- in each chunk the same parities are counted
          by : (chunk : Chunk) → In chunk layout.chunks → (o : Option ℕ) → mirrors chunk ≡ o
              → sum_by parity_counted (cond (is_none o) (map (row_of fails us chunk) (range_with_len 0 (stripe_length chunk / 65536))) [])
              ≡ sum_by parity_counted (cond (is_none o) (map (row_of fails ts chunk) (range_with_len 0 (stripe_length chunk / 65536))) [])
          by chunk i None e =
              let n = range_with_len 0 (stripe_length chunk / 65536) in
              sum_map parity_counted (row_of fails us chunk) n
              ∙ sum_same (λ k. parity_counted (row_of fails us chunk k)) (λ k. parity_counted (row_of fails ts chunk k)) n
              (λ k j. same_row chunk i e k parity_counted 0 (parity_none fails images layout write us)
              (λ out. quiet_parity images layout (row_of (flagged []) ts chunk k) out fails e))
              ∙ sym (sum_map parity_counted (row_of fails ts chunk) n)
          by chunk i (Some m) e = refl

      -- the same is counted for all, begun with those that are left out
      all_counts : all_count_for fails layout write layout.chunks ks images (begun (stood left) (stood unchecked))
          ≡ all_count_for fails layout write layout.chunks wants images (begun (stood 0) (stood unchecked))
      all_counts =
          ap (λ vs. fold (λ tally chunk. cond (is_none (mirrors chunk)) (rows_count layout write (rows_in fails vs chunk) images tally)
          (sites_count fails write (filter (is_in_chunk chunk) vs) images tally)) (begun (stood left) (stood unchecked)) layout.chunks) kept_are
          ∙ counts_are fails images layout write us table (λ t i. placed t (passing_filter needed t ts i).0) left unchecked
          ∙ same_tally (counts_of fails images layout write us table (λ t i. placed t (passing_filter needed t ts i).0) left unchecked)
          (counts_of fails images layout write ts table placed 0 unchecked) (ap stood (length_both needed is_checked ts ∙ omega arith))
          (ap stood (sum_both needed (λ t. length (wrong_parts images fails t)) ts
          (λ t i e. ap length ((nothing_comes images layout table ts t i (placed t i) e).wrong fails))))
          (ap (λ n. stood (cond write n 0)) (sum_both needed (λ t. length (mending_writes images fails t)) ts
          (λ t i e. ap length ((nothing_comes images layout table ts t i (placed t i) e).writes fails)))) (ap stood lost_same) (ap stood parity_same) refl
          ∙ sym (counts_are fails images layout write ts table placed 0 unchecked)
        where
          -- the same are lost
          lost_same : count_by (is_lost images) (filter is_checked us) ≡ count_by (is_lost images) (filter is_checked ts)
          lost_same =
              sym (lost_sum fails images layout write us table (λ t i. placed t (passing_filter needed t ts i).0))
              ∙ sum_both needed (λ t. cond (is_lost_block images t) 1 0) ts
              (λ t i e. ap (λ b. cond b 1 0) (nothing_comes images layout table ts t i (placed t i) e).lost)
              ∙ lost_sum fails images layout write ts table placed

-- the writes for those that are kept are the writes for all
pub kept_writes : KeptWrites
kept_writes images layout wants table =
    ap (λ fails. all_writes_for fails layout layout.chunks (kept_of images layout wants) images)
    (ap (failing images) (kept_are images layout table wants) ∙ same_failing images layout table wants)
    ∙ all_writes images layout table wants (failing images (targets layout wants))

-- the counts of those that are kept, begun with those that are left out, are the counts of all
pub kept_counts : KeptCounts
kept_counts images layout write wants unchecked table =
    ap (λ fails. all_count_for fails layout write layout.chunks (kept_of images layout wants) images
    (begun (stood (left_out images layout wants)) (stood unchecked)))
    (ap (failing images) (kept_are images layout table wants) ∙ same_failing images layout table wants)
    ∙ all_counts images layout table wants (failing images (targets layout wants)) write unchecked
