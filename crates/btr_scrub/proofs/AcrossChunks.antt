-- What is written in one chunk leaves the others.
use Rattle.std.proofs.Common.{◌≡◌, ℕ, zero, suc, ◌+◌, ◌*◌, ◌/◌, ◌<◌, ◌≤◌, Bool, true, false, cond, eqb, List, [], ◌∷◌, length, take, slice_get, All, ◌⊎◌}
use Rattle.std.proofs.Common.{Option, Some, None, is_none, IsSome, is_some, refl, sym, ap, ◌∙◌, subst, inl, inr, arith}
use Rattle.btr_scrub.proofs.Common.{Chunk, Device, Elements, Failing, HasPart, HaveLengths, HaveOwnSlots, Images, In, IsChunk, IsOfElement, IsSought, IsTable}
use Rattle.btr_scrub.proofs.Common.{KeepsOutside, Layout, Mirror, Part, Range, Row, StripePlace, Tally, Target, Want, Write, all_writes_for, and_parts}
use Rattle.btr_scrub.proofs.Common.{chunk_count_for, chunk_writes_for, count_row, count_row_of, count_site, covers, device_in, eqb-true, facts, first_missing}
use Rattle.btr_scrub.proofs.Common.{in_below, is_checked, is_in_chunk, is_in_row, is_lost_block, list_any, mending_writes, mirrors, parities, parity_writes}
use Rattle.btr_scrub.proofs.Common.{passing_filter, place_at, placed_part, range_in_element, range_stands, range_with_len, row_of, row_writes, rows_count}
use Rattle.btr_scrub.proofs.Common.{rows_in, rows_writes, sites_count, sites_in, sites_writes, stands_on, stripe_length, stripe_of, sum_by, targets}
use Rattle.btr_scrub.proofs.Common.{wrong_parts}
use Rattle.std.specs.List.{count_by}
use Rattle.btr_chunk.specs.Apart.{LiesIn}
use Rattle.btr_chunk.proofs.Apart.{stripes_apart}
use Rattle.btr_chunk.proofs.Rule.{data_count-some}
use Rattle.btr_scrub.proofs.Agreeing.{SiteAlike}
use Rattle.btr_scrub.proofs.Blockwise.{stripe_stands, with_one_start, target_sought}
use Rattle.btr_scrub.proofs.CopyWrites.{written_byte, site_stays}
use Rattle.btr_scrub.proofs.Places.{is_at}
use Rattle.btr_scrub.proofs.Positions.{IsCopyByte, on_stripe}
use Rattle.btr_scrub.proofs.RowAgreeing.{RowAlike, beside, flat_same, fold_same, row_writes_alike, flat_mapped, fold_mapped}
use Rattle.btr_scrub.proofs.RowWrites.{IsBlockOf, IsRowIn, row_short, row_stays, written_row}
use Rattle.btr_scrub.proofs.Scrubbing.{IsUnmoved}
use Rattle.btr_scrub.proofs.Shorts.{site_short}
use Rattle.btr_scrub.proofs.Pasting.{Short, flat_short, unmoved_by}
use Rattle.btr_scrub.proofs.Lists.{of_mapped, any_flat, of_flat, at_in}
use Rattle.btr_scrub.proofs.RowNumbers.{IsWholeChunk, all_rows, each_row, same_start}

-- ---- which chunk a byte of a device is of

-- a byte of a slot lies in a stripe of the chunk of a number
pub record InChunk (layout : Layout) (i slot off : ℕ) : Type 0 where
  pub devid : ℕ
  pub device : Device
  pub given : device_in layout.devices devid ≡ Some device
  pub same_slot : device.slot ≡ slot
  pub stripe : ℕ
  pub lies : LiesIn layout.chunks (record { devid = devid; offset = off }) i stripe

-- a byte of a device lies in stripes of one chunk only
pub one_chunk : (layout : Layout) (i j slot off : ℕ) → IsTable layout.chunks → HaveOwnSlots layout.devices → InChunk layout i slot off
    → InChunk layout j slot off → i ≡ j
one_chunk layout i j slot off table own a b =
    let devid : a.devid ≡ b.devid = own a.devid b.devid a.device b.device a.given b.given (a.same_slot ∙ sym b.same_slot) in
    (stripes_apart layout.chunks (record { devid = a.devid; offset = off }) i j a.stripe b.stripe table a.lies
    (subst (λ d. LiesIn layout.chunks (record { devid = d; offset = off }) j b.stripe) (sym devid) b.lies)).0

-- a byte of a block's copy lies in the block's chunk
pub copy_in_chunk : (layout : Layout) (t : Target) (slot off : ℕ) → IsTable layout.chunks → (is : IsSought layout t) → IsCopyByte layout t slot off
    → InChunk layout is.number slot off
copy_in_chunk layout t slot off table is b =
    let place = place_at t.chunk (Mirror b.copy) t.at in
    let on = on_stripe layout t (Mirror b.copy) table is b.has in
    record {
      devid = place.devid;
      device = b.device;
      given = b.given;
      same_slot = b.same_slot;
      stripe = on.number;
      lies = record {
        chunk = t.chunk;
        there = is.there;
        stripe = on.stripe;
        stripe_there = on.there;
        inside = record { device = on.devid; begin = omega (arith, on.begin, b.offset); end = omega (arith, on.end, b.offset, b.below) };
      };
    }

-- a byte of a full stripe's element lies in the row's chunk
pub element_in_chunk : (layout : Layout) (row : Row) (q : Part) (slot off : ℕ) → IsTable layout.chunks → (e : IsOfElement layout row q slot off)
    → InChunk layout e.number slot off
element_in_chunk layout row q slot off table e =
    let a = is_at layout row q slot off table e in
    record {
      devid = a.stripe.devid;
      device = a.device;
      given = a.given;
      same_slot = a.same_slot;
      stripe = stripe_of row.chunk.profile (length row.chunk.stripes) q (record { row = row.number; index = 0; rest = 0 });
      lies = a.lies;
    }

-- ---- lists

-- sums are equal where each number is
pub sum_same : {X : Type 0} (f g : X → ℕ) (xs : List X) → ((x : X) → In x xs → f x ≡ g x) → sum_by f xs ≡ sum_by g xs
sum_same f g xs h = fold_same (λ a x. a + f x) (λ a x. a + g x) xs 0 (λ x i z. ap (λ n. z + n) (h x i))

-- one of the first elements has a number below theirs
in_take : {X : Type 0} (n : ℕ) (xs : List X) (x : X) → In x (take n xs) → (j : ℕ) × (j < n) × (slice_get xs j ≡ Some x)
in_take zero xs x i = absurd i
in_take (suc n) [] x i = absurd i
in_take (suc n) (y ∷ xs) x (inl e) = (0, omega arith, ap Some e)
in_take (suc n) (y ∷ xs) x (inr i) = let r = in_take n xs x i in (suc r.0, omega (arith, r.1), r.2)

-- ---- a chunk of the table

-- what is counted for a row is the same
pub row_counted : (images images' : Images) (layout : Layout) (write : Bool) (row : Row) (also : Failing) (tally : Tally)
    → RowAlike images images' layout row also → count_row images' layout write tally (beside also row) ≡ count_row images layout write tally row
row_counted images images' layout write row also tally a =
    let f = row.failing in
    let bad = sum_same (λ t. length (wrong_parts images' also t)) (λ t. length (wrong_parts images f t)) row.blocks (λ t i. ap length (a.blocks t i).wrong) in
    let repaired = sum_same (λ t. length (mending_writes images' also t)) (λ t. length (mending_writes images f t)) row.blocks
    (λ t i. ap length (a.blocks t i).writes) in
    let lost = sum_same (λ t. cond (is_lost_block images' t) 1 0) (λ t. cond (is_lost_block images t) 1 0) row.blocks
    (λ t i. ap (λ b. cond b 1 0) (a.blocks t i).lost) in
    let parity = sum_same (λ q. length (parity_writes images' layout (beside also row) q)) (λ q. length (parity_writes images layout row q))
    (parities row.chunk.profile) (λ q i. ap length (a.parities q i)) in
    ap (count_row_of row.blocks tally)
    (λ i. record { blocks = count_by is_checked row.blocks; bad = bad i; repaired = cond write (repaired i) 0; lost = lost i; parity = parity i })

-- what comes of a chunk in some images, beside some that fail, where it is the same of each of its full stripes or blocks
module _ (kept also : Failing) (images images' : Images) (layout : Layout) (wants : List Want) (chunk : Chunk)
    (rows : mirrors chunk ≡ None → (k : ℕ) → k < stripe_length chunk / 65536 → RowAlike images images' layout (row_of also (targets layout wants) chunk k) kept)
    (sites : (n : ℕ) → mirrors chunk ≡ Some n → (t : Target) → In t (sites_in layout chunk wants) → SiteAlike also kept images images' t) where
  -- the blocks and plain sectors of the wants that have a position
  abbrev ts : List Target
  ts = targets layout wants

  -- the numbers of the chunk's full stripes
  abbrev numbers : List ℕ
  numbers = range_with_len 0 (stripe_length chunk / 65536)

  -- then the same is written in the chunk
  pub chunk_alike : chunk_writes_for kept layout chunk wants images' ≡ chunk_writes_for also layout chunk wants images
  chunk_alike = by (mirrors chunk) refl
    where
      by : (o : Option ℕ) → mirrors chunk ≡ o
          → cond (is_none o) (rows_writes layout (rows_in kept ts chunk) images') (sites_writes kept (sites_in layout chunk wants) images')
          ≡ cond (is_none o) (rows_writes layout (rows_in also ts chunk) images) (sites_writes also (sites_in layout chunk wants) images)
      by None parity =
          ap (λ rs. rows_writes layout rs images') (all_rows kept ts chunk parity)
          ∙ flat_mapped (row_writes images' layout) (row_writes images layout) (row_of kept ts chunk) (row_of also ts chunk) numbers
          (λ k i. row_writes_alike images images' layout (row_of also ts chunk k) kept (rows parity k (in_below (stripe_length chunk / 65536) k i)))
          ∙ sym (ap (λ rs. rows_writes layout rs images) (all_rows also ts chunk parity))
      by (Some n) copies = flat_same (mending_writes images' kept) (mending_writes images also) (sites_in layout chunk wants)
          (λ t i. (sites n copies t i).writes)

  -- and the same is counted there
  pub chunk_counted : (write : Bool) (x : Tally) → chunk_count_for kept layout write chunk wants images' x
      ≡ chunk_count_for also layout write chunk wants images x
  chunk_counted write x = by (mirrors chunk) refl
    where
      by : (o : Option ℕ) → mirrors chunk ≡ o
          → cond (is_none o) (rows_count layout write (rows_in kept ts chunk) images' x) (sites_count kept write (sites_in layout chunk wants) images' x)
          ≡ cond (is_none o) (rows_count layout write (rows_in also ts chunk) images x) (sites_count also write (sites_in layout chunk wants) images x)
      by None parity =
          ap (λ rs. rows_count layout write rs images' x) (all_rows kept ts chunk parity)
          ∙ fold_mapped (count_row images' layout write) (count_row images layout write) (row_of kept ts chunk) (row_of also ts chunk) numbers x
          (λ k i z. row_counted images images' layout write (row_of also ts chunk k) kept z (rows parity k (in_below (stripe_length chunk / 65536) k i)))
          ∙ sym (ap (λ rs. rows_count layout write rs images x) (all_rows also ts chunk parity))
      by (Some n) copies = fold_same (count_site kept images' write) (count_site also images write) (sites_in layout chunk wants) x
          (λ t i z. (sites n copies t i).counts write z)

-- a block of the chunk of a number
pub record OfChunk (layout : Layout) (number : ℕ) (chunk : Chunk) (t : Target) : Type 0 where
  pub is : IsSought layout t
  pub number_is : is.number ≡ number
  pub chunk_is : t.chunk ≡ chunk

-- a full stripe of the chunk of a number, and its blocks
pub record OfRows (layout : Layout) (number : ℕ) (row : Row) : Type 0 where
  pub is : IsRowIn layout row
  pub number_is : is.chunk_number ≡ number
  pub blocks : (t : Target) → In t row.blocks → IsBlockOf layout row t

module _ {layout : Layout} {number : ℕ} {chunk : Chunk} (s : IsWholeChunk layout number chunk) (kept : Failing) (wants : List Want) where
  -- the chunk is sound, as each of its table is
  sound : IsChunk chunk
  sound = (s.of.table.sound number chunk s.of.there).0

  -- an element stands, as no device is missing
  pub element_stands : (r : ℕ) (q : Part) → r * 65536 + 65536 ≤ stripe_length chunk
      → HasPart chunk.profile (length chunk.stripes) q → IsSome (range_in_element layout (row_of kept (targets layout wants) chunk r) q 0 65536)
  element_stands r q inside has =
      let at0 : Elements = record { row = r; index = 0; rest = 0 } in
      let p = placed_part chunk q at0 sound has (record {
        index = data_count-some chunk.profile (length chunk.stripes) (facts chunk sound).count;
        inside = omega (arith, inside);
      }) in
      let place = place_at chunk q at0 in
      let k = stripe_of chunk.profile (length chunk.stripes) q at0 in
      let stands = stands_on p.stripe.offset (stripe_length chunk) (device_in layout.devices p.stripe.devid)
      (stripe_stands layout number k chunk p.stripe s.given s.of.there p.there) in
      let offset : place.offset ≡ p.stripe.offset + r * 65536 + 0 = ap (λ (x : StripePlace). x.offset) p.place in
      let given : device_in layout.devices place.devid ≡ Some stands.device =
      ap (λ (x : StripePlace). device_in layout.devices x.devid) p.place ∙ stands.there in
      ap is_some (range_stands place.offset 65536 (device_in layout.devices place.devid) stands.device given (omega (arith, stands.within, offset, inside)))

  -- a row that lies in the chunk's stripes is one of it, and so are its blocks
  pub row_is : (r : ℕ) → r * 65536 + 65536 ≤ stripe_length chunk → OfRows layout number (row_of kept (targets layout wants) chunk r)
  row_is r inside = record {
    is = record {
      chunk_number = number;
      there = s.of.there;
      parity = s.of.parity;
      position = record { index = data_count-some chunk.profile (length chunk.stripes) (facts chunk sound).count; inside = omega (arith, inside) };
      stand = λ q has. element_stands r q inside has;
    };
    number_is = refl;
    blocks = λ t i.
        let f = passing_filter (is_in_row chunk r) t (targets layout wants) i in
        let both = and_parts (is_in_chunk chunk t) (eqb t.at.row r) f.1 in
        let is = target_sought layout wants t f.0 in
        record { is = is; chunk = same_start s.of t is both.0; number = eqb-true t.at.row r both.1 };
  }

  -- each full stripe that the chunk is said to have is one of it
  of_rows : (row : Row) → In row (rows_in kept (targets layout wants) chunk) → OfRows layout number row
  of_rows row i = each_row kept (targets layout wants) chunk (stripe_length chunk / 65536) (OfRows layout number) (λ k lt. row_is k (omega (arith, lt))) row
      (subst (In row) (all_rows kept (targets layout wants) chunk s.of.parity) i)

module _ (kept : Failing) (layout : Layout) (table : IsTable layout.chunks) (own : HaveOwnSlots layout.devices) (none : first_missing layout ≡ None)
    (number : ℕ) (chunk : Chunk) (there : slice_get layout.chunks number ≡ Some chunk) (wants : List Want) where
  -- all elements of the chunk stand, where it has parity
  whole : mirrors chunk ≡ None → IsWholeChunk layout number chunk
  whole parity = record { of = record { table = table; there = there; parity = parity }; own = own; given = none }

  -- a chunk has one number
  number_same : (k j : ℕ) (c : Chunk) → slice_get layout.chunks k ≡ Some c → slice_get layout.chunks j ≡ Some c → k ≡ j
  number_same k j c e f = (with_one_start layout table k j c c e f refl).0

  -- a block that the chunk is said to have is one of it
  pub of_chunk : (t : Target) → In t (sites_in layout chunk wants) → OfChunk layout number chunk t
  of_chunk t i =
      let f = passing_filter (is_in_chunk chunk) t (targets layout wants) i in
      let is = target_sought layout wants t f.0 in
      let same = with_one_start layout table is.number number t.chunk chunk is.there there (eqb-true t.chunk.start chunk.start f.1) in
      record { is = is; number_is = same.0; chunk_is = same.1 }

  module _ (images : Images) (lengths : HaveLengths images layout) where
    -- each byte that is written lies in the chunk
    pub chunk_byte : (slot off : ℕ) → list_any (λ (w : Write). covers slot off w.range) (chunk_writes_for kept layout chunk wants images) ≡ true
        → InChunk layout number slot off
    chunk_byte slot off h = by (mirrors chunk) refl h
      where
        by : (o : Option ℕ) → mirrors chunk ≡ o → list_any (λ (w : Write). covers slot off w.range)
            (cond (is_none o) (rows_writes layout (rows_in kept (targets layout wants) chunk) images)
            (sites_writes kept (sites_in layout chunk wants) images)) ≡ true → InChunk layout number slot off
        by None parity h =
            let f = any_flat (λ (w : Write). covers slot off w.range) (row_writes images layout) (rows_in kept (targets layout wants) chunk) h in
            let of = of_rows (whole parity) kept wants f.0 f.1 in
            let w = written_row layout f.0 table of.is images slot off of.blocks f.2 in
            let same = number_same w.1.number of.is.chunk_number f.0.chunk w.1.there of.is.there in
            subst (λ k. InChunk layout k slot off) (same ∙ of.number_is) (element_in_chunk layout f.0 w.0 slot off table w.1)
        by (Some n) copies h =
            let f = any_flat (λ (w : Write). covers slot off w.range) (mending_writes images kept) (sites_in layout chunk wants) h in
            let of = of_chunk f.0 f.1 in
            let b = written_byte kept images layout lengths f.0 of.is n (ap mirrors of.chunk_is ∙ copies) slot off f.2 in
            subst (λ k. InChunk layout k slot off) of.number_is (copy_in_chunk layout f.0 slot off table of.is b)

    -- each write in the chunk has at most as many bytes as its range
    pub chunk_short : All (Short images) (chunk_writes_for kept layout chunk wants images)
    chunk_short = by (mirrors chunk) refl
      where
        by : (o : Option ℕ) → mirrors chunk ≡ o → All (Short images)
            (cond (is_none o) (rows_writes layout (rows_in kept (targets layout wants) chunk) images) (sites_writes kept (sites_in layout chunk wants) images))
        by None parity = flat_short images (row_writes images layout) (rows_in kept (targets layout wants) chunk)
            (λ row i. let of = of_rows (whole parity) kept wants row i in row_short layout row table of.is images lengths of.blocks)
        by (Some n) copies = flat_short images (λ t. mending_writes images kept t) (sites_in layout chunk wants)
            (λ t i. site_short images layout lengths t (of_chunk t i).is kept)

    -- nothing of the chunk was written: what is to be written and counted there is as before
    pub chunk_stays : (write : Bool) (images' : Images) (ranges : List Range) → KeepsOutside ranges images images'
        → ((slot off : ℕ) → InChunk layout number slot off → list_any (covers slot off) ranges ≡ false)
        → (chunk_writes_for kept layout chunk wants images' ≡ chunk_writes_for kept layout chunk wants images)
        × ((x : Tally) → chunk_count_for kept layout write chunk wants images' x ≡ chunk_count_for kept layout write chunk wants images x)
    chunk_stays write images' ranges keeps free = (
      chunk_alike kept kept images images' layout wants chunk each_row each_block,
      chunk_counted kept kept images images' layout wants chunk each_row each_block write,
    )
      where
        -- where the chunk has parity, what is told of each of its full stripes is as before
        each_row : mirrors chunk ≡ None → (k : ℕ) → k < stripe_length chunk / 65536
            → RowAlike images images' layout (row_of kept (targets layout wants) chunk k) kept
        each_row parity k lt =
            let row = row_of kept (targets layout wants) chunk k in
            let of = row_is (whole parity) kept wants k (omega (arith, lt)) in
            row_stays layout row table of.is images lengths images' ranges of.blocks keeps
            (λ q slot off e. free slot off (subst (λ k. InChunk layout k slot off)
            (number_same e.number number chunk e.there there) (element_in_chunk layout row q slot off table e)))

        -- where it has copies, what is told of each of its blocks is as before
        each_block : (n : ℕ) → mirrors chunk ≡ Some n → (t : Target) → In t (sites_in layout chunk wants) → SiteAlike kept kept images images' t
        each_block n copies t i =
            let of = of_chunk t i in
            site_stays kept images layout lengths t of.is n (ap mirrors of.chunk_is ∙ copies) images' ranges keeps
            (λ slot off b. free slot off (subst (λ j. InChunk layout j slot off) of.number_is (copy_in_chunk layout t slot off table of.is b)))

-- ---- what a write is for

-- for a block with copies
pub record ForCopies (kept : Failing) (images : Images) (layout : Layout) (wants : List Want) (w : Write) : Type 0 where
  pub block : Target
  pub among : In block (targets layout wants)
  pub is : IsSought layout block
  pub copies : ℕ
  pub has : mirrors block.chunk ≡ Some copies
  pub written : In w (mending_writes images kept block)

-- for a full stripe
pub record ForRow (kept : Failing) (images : Images) (layout : Layout) (wants : List Want) (w : Write) : Type 0 where
  pub number : ℕ
  pub chunk : Chunk
  pub whole : IsWholeChunk layout number chunk
  pub row : ℕ
  pub inside : row * 65536 + 65536 ≤ stripe_length chunk
  pub written : In w (row_writes images layout (row_of kept (targets layout wants) chunk row))

-- each write is for a block with copies, or for a full stripe
pub for_one : (kept : Failing) (layout : Layout) → IsTable layout.chunks → HaveOwnSlots layout.devices → first_missing layout ≡ None → (wants : List Want)
    (images : Images) (w : Write) → In w (all_writes_for kept layout layout.chunks wants images)
    → ForCopies kept images layout wants w ⊎ ForRow kept images layout wants w
for_one kept layout table own none wants images w i =
    let f = of_flat (λ c. chunk_writes_for kept layout c wants images) w layout.chunks i in
    let j = at_in f.0 layout.chunks f.1 in
    by f.0 j.0 j.1 (mirrors f.0) refl f.2
  where
    by : (chunk : Chunk) (number : ℕ) → slice_get layout.chunks number ≡ Some chunk → (o : Option ℕ) → mirrors chunk ≡ o
        → In w (cond (is_none o) (rows_writes layout (rows_in kept (targets layout wants) chunk) images)
        (sites_writes kept (sites_in layout chunk wants) images)) → ForCopies kept images layout wants w ⊎ ForRow kept images layout wants w
    by chunk number there None parity i =
        let n = stripe_length chunk / 65536 in
        let f = of_flat (row_writes images layout) w (rows_in kept (targets layout wants) chunk) i in
        let r = of_mapped (row_of kept (targets layout wants) chunk) f.0 (range_with_len 0 n)
        (subst (In f.0) (all_rows kept (targets layout wants) chunk parity) f.1) in
        let lt = in_below n r.0 r.1 in
        inr (record {
          number = number;
          chunk = chunk;
          whole = whole kept layout table own none number chunk there wants parity;
          row = r.0;
          inside = omega (arith, lt);
          written = subst (λ row. In w (row_writes images layout row)) (sym r.2) f.2;
        })
    by chunk number there (Some n) copies i =
        let f = of_flat (mending_writes images kept) w (sites_in layout chunk wants) i in
        let of = of_chunk kept layout table own none number chunk there wants f.0 f.1 in
        inl (record {
          block = f.0;
          among = (passing_filter (is_in_chunk chunk) f.0 (targets layout wants) f.1).0;
          is = of.is;
          copies = n;
          has = ap mirrors of.chunk_is ∙ copies;
          written = f.2;
        })

-- ---- the chunks before one

-- what was written in the chunks before one leaves what is to be written and counted there
pub chunk_unmoved : (kept : Failing) (layout : Layout) (write : Bool) (wants : List Want) (held : Option Images) (number : ℕ) (chunk : Chunk)
    → IsTable layout.chunks → HaveOwnSlots layout.devices → first_missing layout ≡ None → slice_get layout.chunks number ≡ Some chunk
    → ((images : Images) → held ≡ Some images → HaveLengths images layout)
    → IsUnmoved layout write (all_writes_for kept layout (take number layout.chunks) wants) (chunk_writes_for kept layout chunk wants)
    (chunk_count_for kept layout write chunk wants) held
chunk_unmoved kept layout write wants held number chunk table own none there lengths images e =
    let l = lengths images e in
    unmoved_by write images (λ c. chunk_writes_for kept layout c wants images) (take number layout.chunks) (InChunk layout number)
    (λ after. (chunk_writes_for kept layout chunk wants after ≡ chunk_writes_for kept layout chunk wants images)
    × ((x : Tally) → chunk_count_for kept layout write chunk wants after x ≡ chunk_count_for kept layout write chunk wants images x))
    (λ c i. let j = in_take number layout.chunks c i in chunk_short kept layout table own none j.0 c j.2 wants images l)
    (λ c i slot off h here.
    let j = in_take number layout.chunks c i in
    let same = one_chunk layout j.0 number slot off table own (chunk_byte kept layout table own none j.0 c j.2 wants images l slot off h) here in
    omega (arith, same, j.1)) (chunk_stays kept layout table own none number chunk there wants images l write)
