-- The counts of a list of all blocks are the tally of the repair.
use Rattle.std.proofs.Common.{◌≡◌, ℕ, ◌+◌, ◌/◌, ◌<◌, Bool, true, false, not, cond, ◌&&◌, eqb, List, [], ◌∷◌, length, slice_get, Option, Some, None, is_none}
use Rattle.std.proofs.Common.{refl, sym, ap, ◌∙◌, subst, arith, zero-add}
use Rattle.btr_scrub.proofs.Common.{Checked, Chunk, Elements, Failing, Images, In, IsSought, IsTable, Layout, Met, Row, Tally, Target, Write, addr_of}
use Rattle.btr_scrub.proofs.Common.{all_count_for, and_from, and_parts, bad_parts, begun, block_writes, count_met, count_row, count_row_of, count_site, counted}
use Rattle.btr_scrub.proofs.Common.{counted_plain, counted_row, eq-eqb, eqb-true, false_from_ne_true, filter, first_tally, flat_map, fresh_writes, freshened}
use Rattle.btr_scrub.proofs.Common.{holds, is_checked, is_in_chunk, is_in_row, is_lost_block, is_plain, mended_of, mended_row, mending_writes, mirrors}
use Rattle.btr_scrub.proofs.Common.{parities, parity_writes, position, range_with_len, row_of, rows_count, rows_in, same_Some, sites_count, slice_get_within}
use Rattle.btr_scrub.proofs.Common.{stale_parts, stood, stripe_length, sum_by, sum_by-cons, wants_among, writes_if, wrong_parts}
use Rattle.std.proofs.lemmas.List.FromFn.{get_or-range_with_len, length-range_with_len}
use Rattle.std.proofs.lemmas.Option.{slice_get-get_or}
use Rattle.std.specs.List.{count_by, fold}
use Rattle.btr_scrub_copies.specs.Blocks.{is_lost}
use Rattle.btr_scrub.specs.Repair.{failed, is_unchecked, met, sites}
use Rattle.btr_scrub.specs.Units.{Unchecked}
use Rattle.btr_scrub.specs.Whole.{ListedCounts}
use Rattle.btr_scrub.proofs.AcrossChunks.{sum_same}
use Rattle.btr_scrub.proofs.Blockwise.{of_targets, with_one_start}
use Rattle.btr_scrub.proofs.Lists.{at_in}
use Rattle.btr_scrub.proofs.Positions.{is_sought}
use Rattle.btr_scrub.proofs.RowNumbers.{IsParityChunk, all_rows, row_fits, same_start}
use Rattle.btr_scrub.proofs.Sums.{IsOnce, sum_filter, sum_flat, sum_map, sum_one, sum_parts, sum_parts_of, sum_zero}
use Rattle.btr_scrub.proofs.Told.{failing_are, targets_met}

-- ---- counts that stand still

-- numbers that stand still can be added first
pub stood_add : (n m : ℕ) → stood (stood n + m) ≡ stood (n + m)
stood_add n m = grind arith

-- a count that stood still has so much more
abbrev IsMore : ℕ → ℕ → ℕ → Type 0
IsMore old n new = (m : ℕ) → old ≡ stood m → new ≡ stood (m + n)

-- so much was added to it
added : (old n : ℕ) → IsMore old n (stood (old + n))
added old n m e = ap (λ x. stood (x + n)) e ∙ stood_add m n

-- nothing was added to it
unchanged : (old : ℕ) → IsMore old 0 old
unchanged old m e = e ∙ ap stood (omega arith)

-- steps each of which adds to a count add their sum to it
rises : {X : Type 0} (get : Tally → ℕ) (step : Tally → X → Tally) (f : X → ℕ) (xs : List X) (t : Tally)
    → ((u : Tally) (x : X) → IsMore (get u) (f x) (get (step u x))) → IsMore (get t) (sum_by f xs) (get (fold step t xs))
rises get step f [] t h m e = e ∙ ap stood (omega arith)
rises get step f (x ∷ xs) t h m e =
    let whole : m + f x + sum_by f xs ≡ m + sum_by f (x ∷ xs) = omega (arith, sum_by-cons f x xs) in
    rises get step f xs (step t x) h (m + f x) (h t x m e) ∙ ap stood whole

-- counts are the same where each number is
pub same_tally : (a b : Tally) → a.blocks ≡ b.blocks → a.bad ≡ b.bad → a.repaired ≡ b.repaired → a.lost ≡ b.lost → a.parity ≡ b.parity → a.unchecked
    ≡ b.unchecked → a ≡ b
same_tally a b blocks bad repaired lost parity unchecked =
    λ i. record { blocks = blocks i; bad = bad i; repaired = repaired i; lost = lost i; parity = parity i; unchecked = unchecked i }

module _ (kept : Failing) (images : Images) (layout : Layout) (write : Bool) (ts : List Target) where
  -- a count, and what a block and a full stripe add to it
  record Adds (get : Tally → ℕ) (of_block : Target → ℕ) (of_row : Row → ℕ) : Type 0 where
    block : (u : Tally) (t : Target) → IsMore (get u) (of_block t) (get (count_site kept images write u t))
    row : (u : Tally) (r : Row) → IsMore (get u) (of_row r) (get (count_row images layout write u r))

  -- what a chunk adds
  abbrev of_chunk : (Target → ℕ) → (Row → ℕ) → Chunk → ℕ
  of_chunk of_block of_row chunk = cond (is_none (mirrors chunk)) (sum_by of_row (rows_in kept ts chunk)) (sum_by of_block (filter (is_in_chunk chunk) ts))

  -- the counts with those of a chunk
  abbrev count_chunk : Tally → Chunk → Tally
  count_chunk u chunk = cond (is_none (mirrors chunk)) (rows_count layout write (rows_in kept ts chunk) images u)
      (sites_count kept write (filter (is_in_chunk chunk) ts) images u)

  -- a chunk adds the sum over its blocks, or over its full stripes
  chunk_adds : (get : Tally → ℕ) (of_block : Target → ℕ) (of_row : Row → ℕ) → Adds get of_block of_row → (u : Tally) (chunk : Chunk)
      → IsMore (get u) (of_chunk of_block of_row chunk) (get (count_chunk u chunk))
  chunk_adds get of_block of_row adds u chunk = by (is_none (mirrors chunk))
    where
      -- so it is with full stripes and with copies
      by : (b : Bool) → IsMore (get u) (cond b (sum_by of_row (rows_in kept ts chunk)) (sum_by of_block (filter (is_in_chunk chunk) ts)))
          (get (cond b (rows_count layout write (rows_in kept ts chunk) images u) (sites_count kept write (filter (is_in_chunk chunk) ts) images u)))
      by true = rises get (count_row images layout write) of_row (rows_in kept ts chunk) u adds.row
      by false = rises get (count_site kept images write) of_block (filter (is_in_chunk chunk) ts) u adds.block

  -- ---- the counts

  -- what the blocks of a full stripe add, beside its images that fail
  abbrev in_row : (Failing → Target → ℕ) → Row → ℕ
  in_row f r = sum_by (f r.failing) r.blocks

  -- a full stripe without blocks adds nothing
  row_adds : (get : Tally → ℕ) (f : Row → ℕ)
      → ((u : Tally) (r : Row) → IsMore (get u) (f r) (get (counted_row u (mended_row images layout r write)))) → ((r : Row) → r.blocks ≡ [] → f r ≡ 0)
      → (u : Tally) (r : Row) → IsMore (get u) (f r) (get (count_row images layout write u r))
  row_adds get f some none u r = by r.blocks (none r)
    where
      -- so it is whether it has blocks or not
      by : (bs : List Target) → (bs ≡ [] → f r ≡ 0) → IsMore (get u) (f r) (get (count_row_of bs u (mended_row images layout r write)))
      by [] is = subst (λ n. IsMore (get u) n (get u)) (sym (is refl)) (unchanged (get u))
      by (b ∷ bs) is = some u r

  -- the sum of what is written, where it is written
  written_sum : (f : Target → List Write) (us : List Target) → cond write (sum_by (λ t. length (f t)) us) 0 ≡ sum_by (λ t. length (writes_if write (f t))) us
  written_sum f us = by write
    where
      by : (b : Bool) → cond b (sum_by (λ t. length (f t)) us) 0 ≡ sum_by (λ t. length (writes_if b (f t))) us
      by true = refl
      by false = sym (sum_zero (λ (t : Target). 0) us (λ t i. refl))

  -- what a block adds to each count, beside images that fail
  abbrev counts_one : Failing → Target → ℕ
  counts_one fails t = cond (is_checked t) 1 0

  -- how many of its places are wrong
  abbrev wrong : Failing → Target → ℕ
  wrong fails t = length (wrong_parts images fails t)

  -- how many writes are made for it
  abbrev written : Failing → Target → ℕ
  written fails t = length (writes_if write (mending_writes images fails t))

  -- whether it is lost
  abbrev lost : Failing → Target → ℕ
  lost fails t = cond (is_lost_block images t) 1 0

  -- what is added for a block is what is added for a plain sector or for a checked block
  site_adds : (get : Tally → ℕ) (n : Bool → ℕ) (u : Tally) (t : Target) → IsMore (get u) (n true) (get (counted_plain u (freshened images kept t write)))
      → IsMore (get u) (n false) (get (counted u (mended_of images t write))) → IsMore (get u) (n (is_plain t.want)) (get (count_site kept images write u t))
  site_adds get n u t one other = by (is_plain t.want)
    where
      by : (b : Bool) → IsMore (get u) (n b) (get (cond b (counted_plain u (freshened images kept t write)) (counted u (mended_of images t write))))
      by true = one
      by false = other

  -- without blocks there is nothing to add
  none_in : (f : Failing → Target → ℕ) (r : Row) → r.blocks ≡ [] → in_row f r ≡ 0
  none_in f r is = ap (sum_by (f r.failing)) is

  -- each checked block adds one to the blocks
  blocks_add : Adds (λ (t : Tally). t.blocks) (counts_one kept) (in_row counts_one)
  blocks_add = record {
    block = λ u t. site_adds (λ (t : Tally). t.blocks) (λ b. cond (not b) 1 0) u t (unchanged u.blocks) (added u.blocks 1);
    row = row_adds (λ (t : Tally). t.blocks) (in_row counts_one) (λ u r. added u.blocks (in_row counts_one r)) (none_in counts_one);
  }

  -- each wrong place adds one to the bad ones
  bad_add : Adds (λ (t : Tally). t.bad) (wrong kept) (in_row wrong)
  bad_add = record {
    block = λ u t. site_adds (λ (t : Tally). t.bad) (λ b. length (cond b (stale_parts images kept t) (bad_parts images t))) u t
        (added u.bad (length (stale_parts images kept t))) (added u.bad (length (bad_parts images t)));
    row = row_adds (λ (t : Tally). t.bad) (in_row wrong) (λ u r. added u.bad (in_row wrong r)) (none_in wrong);
  }

  -- each write for a block adds one to the repaired ones
  repaired_add : Adds (λ (t : Tally). t.repaired) (written kept) (in_row written)
  repaired_add = record {
    block = λ u t. site_adds (λ (t : Tally). t.repaired)
        (λ b. length (writes_if write (cond b (fresh_writes images kept t) (block_writes images t)))) u t
        (added u.repaired (length (writes_if write (fresh_writes images kept t)))) (added u.repaired (length (writes_if write (block_writes images t))));
    row = row_adds (λ (t : Tally). t.repaired) (in_row written)
        (λ u r m e. added u.repaired (cond write (sum_by (λ t. length (mending_writes images r.failing t)) r.blocks) 0) m e
        ∙ ap (λ n. stood (m + n)) (written_sum (mending_writes images r.failing) r.blocks)) (none_in written);
  }

  -- each lost block adds one to the lost ones
  lost_add : Adds (λ (t : Tally). t.lost) (lost kept) (in_row lost)
  lost_add = record {
    block = λ u t. site_adds (λ (t : Tally). t.lost) (λ b. cond (not b && is_lost images t) 1 0) u t (unchanged u.lost)
        (added u.lost (cond (is_lost images t) 1 0));
    row = row_adds (λ (t : Tally). t.lost) (in_row lost) (λ u r. added u.lost (in_row lost r)) (none_in lost);
  }

  -- how many sectors of its parities are to be written in a full stripe
  abbrev pub parity_in : Row → ℕ
  parity_in r = sum_by (λ part. length (parity_writes images layout r part)) (parities r.chunk.profile)

  -- a row without blocks has no parity to write
  pub parity_none : (r : Row) → r.blocks ≡ [] → parity_in r ≡ 0
  parity_none r is = sum_zero (λ part. length (parity_writes images layout r part)) (parities r.chunk.profile)
      (λ q i. ap (λ bs. length (parity_writes images layout (record { chunk = r.chunk; number = r.number; blocks = bs; failing = r.failing }) q)) is)

  -- only the full stripes add to the parity sectors
  parity_add : Adds (λ (t : Tally). t.parity) (λ t. 0) parity_in
  parity_add = record {
    block = λ u t. site_adds (λ (t : Tally). t.parity) (λ b. 0) u t (unchanged u.parity) (unchanged u.parity);
    row = row_adds (λ (t : Tally). t.parity) parity_in (λ u r. added u.parity (parity_in r)) parity_none;
  }

  -- nothing adds to the sectors without a checksum, which were counted as they were met
  unchecked_add : Adds (λ (t : Tally). t.unchecked) (λ t. 0) (λ r. 0)
  unchecked_add = record {
    block = λ u t. site_adds (λ (t : Tally). t.unchecked) (λ b. 0) u t (unchanged u.unchecked) (unchanged u.unchecked);
    row = row_adds (λ (t : Tally). t.unchecked) (λ r. 0) (λ u r. unchanged u.unchecked) (λ r is. refl);
  }

  -- ---- sums over all chunks

  module _ (table : IsTable layout.chunks) (placed : (t : Target) → In t ts → IsSought layout t) where
    -- a block lies in one chunk
    once_chunk : (t : Target) → In t ts → IsOnce (λ chunk. is_in_chunk chunk t) layout.chunks
    once_chunk t i = (
      is.number,
      (
        t.chunk,
        is.there,
        eq-eqb t.chunk.start t.chunk.start refl,
        λ j other ne found. false_from_ne_true (is_in_chunk other t)
            (λ e. ne (with_one_start layout table j is.number other t.chunk found is.there (sym (eqb-true t.chunk.start other.start e))).0),
      ),
    )
      where
        is : IsSought layout t
        is = placed t i

    -- a number below n stands at its place among them
    range_at : (n i : ℕ) → i < n → slice_get (range_with_len 0 n) i ≡ Some i
    range_at n i lt = slice_get-get_or (range_with_len 0 n) i 0 (omega (arith, lt, length-range_with_len 0 n))
        ∙ ap Some (get_or-range_with_len 0 n i 0 lt ∙ omega arith)

    -- over the full stripes of a chunk a sum is that over its blocks
    in_rows : (number : ℕ) (chunk : Chunk) → slice_get layout.chunks number ≡ Some chunk → mirrors chunk ≡ None → (f : Failing → Target → ℕ)
        → sum_by (in_row f) (rows_in kept ts chunk) ≡ sum_by (f kept) (filter (is_in_chunk chunk) ts)
    in_rows number chunk there parity f =
        ap (sum_by (in_row f)) (all_rows kept ts chunk parity) ∙ sum_map (in_row f) (row_of kept ts chunk) (range_with_len 0 n)
        ∙ sum_parts_of (f kept) (is_in_row chunk) (is_in_chunk chunk) (range_with_len 0 n) ts once (λ t k e. ap (λ b. b && eqb t.at.row k) e)
      where
        -- how many full stripes the chunk has
        n : ℕ
        n = stripe_length chunk / 65536

        -- a block of the chunk lies in one of them
        once : (t : Target) → In t ts → is_in_chunk chunk t ≡ true → IsOnce (λ k. is_in_row chunk k t) (range_with_len 0 n)
        once t i e = (
          t.at.row,
          (
            t.at.row,
            range_at n t.at.row below,
            and_from (is_in_chunk chunk t) (eqb t.at.row t.at.row) e (eq-eqb t.at.row t.at.row refl),
            λ j other ne found. false_from_ne_true (is_in_row chunk other t) (λ yes.
                let lt : j < n = omega (arith, slice_get_within (range_with_len 0 n) j other found, length-range_with_len 0 n) in
                let here = eqb-true t.at.row other (and_parts (is_in_chunk chunk t) (eqb t.at.row other) yes).1 in
                ne (omega (arith, same_Some other j (sym found ∙ range_at n j lt), here))),
          ),
        )
          where
            is : IsSought layout t
            is = placed t i

            -- the chunk is one of the table, with parity
            of : IsParityChunk layout number chunk
            of = record { table = table; there = there; parity = parity }

            -- it is the block's chunk
            mine : t.chunk ≡ chunk
            mine = same_start of t is e

            -- the block's full stripe is one of the chunk
            below : t.at.row < n
            below =
                let fits = row_fits of (addr_of t.want) (subst (λ c. holds c (addr_of t.want) ≡ true) mine is.held) in
                let row : t.at.row ≡ (position chunk (addr_of t.want)).row = ap (λ (x : Elements). x.row) is.at ∙ ap
                (λ c. (position c (addr_of t.want)).row) mine in
                omega (arith, fits, row)

    -- what all blocks add
    module _ (f : Failing → Target → ℕ) where
      -- a chunk adds the sum over the blocks that lie in it
      chunk_sum : (chunk : Chunk) → In chunk layout.chunks → of_chunk (f kept) (in_row f) chunk ≡ sum_by (f kept) (filter (is_in_chunk chunk) ts)
      chunk_sum chunk i = let j = at_in chunk layout.chunks i in by j.0 j.1 (mirrors chunk) refl
        where
          -- so it is with parity and with copies
          by : (number : ℕ) → slice_get layout.chunks number ≡ Some chunk → (o : Option ℕ) → mirrors chunk ≡ o
              → cond (is_none o) (sum_by (in_row f) (rows_in kept ts chunk)) (sum_by (f kept) (filter (is_in_chunk chunk) ts))
              ≡ sum_by (f kept) (filter (is_in_chunk chunk) ts)
          by number there None parity = in_rows number chunk there parity f
          by number there (Some n) copies = refl

      -- all chunks add the sum over all blocks
      all_sum : sum_by (of_chunk (f kept) (in_row f)) layout.chunks ≡ sum_by (f kept) ts
      all_sum = sum_same (of_chunk (f kept) (in_row f)) (λ chunk. sum_by (f kept) (filter (is_in_chunk chunk) ts)) layout.chunks chunk_sum
          ∙ sum_parts (f kept) is_in_chunk layout.chunks ts once_chunk

    -- the lost blocks are counted one by one
    pub lost_sum : sum_by (lost kept) ts ≡ count_by (is_lost images) (filter is_checked ts)
    lost_sum = sum_same (lost kept) (λ t. cond (is_checked t) (cond (is_lost images t) 1 0) 0) ts (λ t i. grind arith)
        ∙ sym (sum_filter (λ t. cond (is_lost images t) 1 0) is_checked ts)

    -- what full stripes alone add is their sum in all chunks
    rows_sum : (f : Row → ℕ) → sum_by (of_chunk (λ t. 0) f) layout.chunks ≡ sum_by f (flat_map (rows_in kept ts) layout.chunks)
    rows_sum f = sum_same (of_chunk (λ t. 0) f) (λ chunk. sum_by f (rows_in kept ts chunk)) layout.chunks (λ chunk i. by chunk (mirrors chunk) refl)
        ∙ sym (sum_flat f (rows_in kept ts) layout.chunks)
      where
        -- a chunk with copies has none
        by : (chunk : Chunk) (o : Option ℕ) → mirrors chunk ≡ o
            → cond (is_none o) (sum_by f (rows_in kept ts chunk)) (sum_by (λ t. 0) (filter (is_in_chunk chunk) ts)) ≡ sum_by f (rows_in kept ts chunk)
        by chunk None parity = refl
        by chunk (Some n) copies = rw copies (sum_zero (λ t. 0) (filter (is_in_chunk chunk) ts) (λ t i. refl))

    -- ---- the tally

    module _ (sound unchecked : ℕ) where
      -- the counts before the first chunk
      abbrev start : Tally
      start = begun (stood sound) (stood unchecked)

      -- the counts behind the last chunk
      abbrev all : Tally
      all = fold count_chunk start layout.chunks

      -- a count behind the last chunk is what it was before the first, and what all chunks add
      counted_all : (get : Tally → ℕ) (of_block : Target → ℕ) (of_row : Row → ℕ) (n total : ℕ) → Adds get of_block of_row → get start ≡ stood n → n
          + sum_by (of_chunk of_block of_row) layout.chunks ≡ total → get all ≡ stood total
      counted_all get of_block of_row n total adds e is =
          rises get count_chunk (of_chunk of_block of_row) layout.chunks start (chunk_adds get of_block of_row adds) n e ∙ ap stood is

      -- the counts of all blocks, begun with some that are sound
      abbrev pub counts_of : Tally
      counts_of = record {
        blocks = stood (sound + length (filter is_checked ts));
        bad = stood (sum_by (wrong kept) ts);
        repaired = stood (cond write (sum_by (λ t. length (mending_writes images kept t)) ts) 0);
        lost = stood (count_by (is_lost images) (filter is_checked ts));
        parity = stood (sum_by parity_in (flat_map (rows_in kept ts) layout.chunks));
        unchecked = stood unchecked;
      }

      -- the counts of all chunks are sums over blocks and full stripes
      pub counts_are : all ≡ counts_of
      counts_are = same_tally all counts_of
          (counted_all (λ (t : Tally). t.blocks) (counts_one kept) (in_row counts_one) sound (sound + length (filter is_checked ts)) blocks_add refl
          (omega (arith, all_sum counts_one, sum_filter (λ (t : Target). 1) is_checked ts, sum_one (filter is_checked ts))))
          (counted_all (λ (t : Tally). t.bad) (wrong kept) (in_row wrong) 0 (sum_by (wrong kept) ts) bad_add refl (omega (arith, all_sum wrong)))
          (counted_all (λ (t : Tally). t.repaired) (written kept) (in_row written) 0
          (cond write (sum_by (λ t. length (mending_writes images kept t)) ts) 0) repaired_add refl
          (omega (arith, all_sum written, written_sum (mending_writes images kept) ts)))
          (counted_all (λ (t : Tally). t.lost) (lost kept) (in_row lost) 0 (count_by (is_lost images) (filter is_checked ts)) lost_add refl
          (omega (arith, all_sum lost, lost_sum)))
          (counted_all (λ (t : Tally). t.parity) (λ t. 0) parity_in 0 (sum_by parity_in (flat_map (rows_in kept ts) layout.chunks)) parity_add
          refl (omega (arith, rows_sum parity_in)))
          (counted_all (λ (t : Tally). t.unchecked) (λ t. 0) (λ r. 0) unchecked unchecked unchecked_add refl
          (omega (arith, rows_sum (λ r. 0), sum_zero (λ (r : Row). 0) (flat_map (rows_in kept ts) layout.chunks) (λ r i. refl))))

-- the sectors without a checksum
pub unchecked_among : (ms : List Met) (n : ℕ) → fold count_met (stood n) ms ≡ stood (n + count_by is_unchecked ms)
unchecked_among [] n = ap stood (omega arith)
unchecked_among (Checked want ∷ ms) n = unchecked_among ms n
    ∙ ap (λ k. stood (n + k)) (sym (sum_by-cons (λ m. cond (is_unchecked m) 1 0) (Checked want) ms ∙ omega arith))
unchecked_among (Unchecked addr ∷ ms) n =
    let whole : n + 1 + count_by is_unchecked ms ≡ n + count_by is_unchecked (Unchecked addr ∷ ms) = omega
    (arith, sum_by-cons (λ m. cond (is_unchecked m) 1 0) (Unchecked addr) ms) in
    ap (λ k. fold count_met k ms) (stood_add n 1) ∙ unchecked_among ms (n + 1) ∙ ap stood whole

-- the counts for a list of all blocks that are met are the tally of the repair, each up to its type's end
pub listed_counts : ListedCounts
listed_counts images fs write table =
    let kept = failed images fs in
    let ms = met images fs in
    let us = sites images fs in
    let unchecked = count_by is_unchecked ms in
    ap (λ k. all_count_for k fs.layout write fs.layout.chunks (wants_among ms) images (first_tally (fold count_met 0 ms))) (failing_are images fs)
    ∙ ap (λ n. all_count_for kept fs.layout write fs.layout.chunks (wants_among ms) images (first_tally n))
    (unchecked_among ms 0 ∙ ap stood (zero-add unchecked))
    ∙ ap (λ ts. fold (count_chunk kept images fs.layout write ts) (first_tally (stood unchecked)) fs.layout.chunks) (targets_met fs.layout ms)
    ∙ counts_are kept images fs.layout write us table placed 0 unchecked
    ∙ same_tally (counts_of kept images fs.layout write us table placed 0 unchecked) _ (ap stood (zero-add (length (filter is_checked us))))
    refl refl refl refl refl
  where
    -- each site has a position
    placed : (t : Target) → In t (sites images fs) → IsSought fs.layout t
    placed t i =
        let w = of_targets fs.layout t (wants_among (met images fs)) (subst (In t) (sym (targets_met fs.layout (met images fs))) i) in
        is_sought fs.layout w.0 t w.2
