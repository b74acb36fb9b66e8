-- One full stripe more of a chunk with parity: those between have no checked block.
use Rattle.std.proofs.Common.{◌≡◌, ℕ, ◌+◌, ◌-◌, ◌*◌, ◌<◌, ◌≤◌, Bool, true, ◌&&◌, eqb, List, [], ◌∷◌, ◌++◌, map, All, Option, Some, Ok, refl, sym, ap, ◌∙◌}
use Rattle.std.proofs.Common.{subst, inl, inr, arith, append-nil}
use Rattle.btr_scrub.proofs.Common.{AreApart, Chunk, Failing, HaveLengths, Images, In, IsOfElement, Layout, Part, Row, Tally, Target, Want, Write, cons_option}
use Rattle.btr_scrub.proofs.Common.{count_row, count_row_of, counted_row, covers, eq-eqb, filter, flat_map, is_in_row, list_any, mended_row, mending_writes}
use Rattle.btr_scrub.proofs.Common.{ok_or_none, parities, parity_writes, range_with_len, row_of, row_writes, rows_count, rows_writes, sought, stripe_length}
use Rattle.btr_scrub.proofs.Common.{targets}
use Rattle.std.proofs.lemmas.Grind.{flat_map-append}
use Rattle.std.proofs.lemmas.List.{map-append}
use Rattle.btr_scrub_row.specs.Mending.{IsRowOf, IsOn, is_at}
use Rattle.btr_scrub.proofs.Places.{elements_apart}
use Rattle.btr_scrub.proofs.RowAgreeing.{row_writes_alike}
use Rattle.btr_scrub.proofs.RowWrites.{row_short, row_stays, written_row}
use Rattle.btr_scrub.proofs.AcrossChunks.{element_stands, row_counted, row_is, OfRows}
use Rattle.btr_scrub.proofs.Blockwise.{of_targets, target_sought, targets_both}
use Rattle.btr_scrub.proofs.RowNumbers.{IsWholeChunk, in_range, range_split, row_is_not, rows_split, rows_to, start_there, each_row}
use Rattle.btr_scrub.proofs.Lists.{all_from, of_mapped, flat_none, fold_none}
use Rattle.btr_scrub.proofs.Scrubbing.{IsUnmoved}
use Rattle.btr_scrub.proofs.Pasting.{Short, unmoved_by}
use Rattle.std.proofs.lemmas.List.Sums.{fold-append}
use Rattle.btr_scrub.proofs.Grouping.{IsNextGroup, group_between, group_is}

-- ---- empty rows

-- nothing is written for a row without blocks
pub empty_writes : (images : Images) (layout : Layout) (row : Row) → row.blocks ≡ [] → row_writes images layout row ≡ []
empty_writes images layout row e =
    ap (λ bs. flat_map (mending_writes images row.failing) bs ++ flat_map (parity_writes images layout row) (parities row.chunk.profile)) e
    ∙ flat_none (parity_writes images layout row) (parities row.chunk.profile)
    (λ q i. ap (λ bs. parity_writes images layout (record { chunk = row.chunk; number = row.number; blocks = bs; failing = row.failing }) q) e)

-- nothing is counted for it
pub empty_count : (images : Images) (layout : Layout) (write : Bool) (tally : Tally) (row : Row) → row.blocks ≡ []
    → count_row images layout write tally row ≡ tally
empty_count images layout write tally row e = ap (λ bs. count_row_of bs tally (mended_row images layout row write)) e

-- ---- one chunk with parity

module _ {layout : Layout} {number : ℕ} {chunk : Chunk} (s : IsWholeChunk layout number chunk) (kept : Failing) (wants : List Want) where
  -- the full stripe of a number
  abbrev row_at : ℕ → Row
  row_at = row_of kept (targets layout wants) chunk

  -- those below a number
  abbrev rows_below : ℕ → List Row
  rows_below = rows_to kept (targets layout wants) chunk

  -- the rows from q on up to n
  abbrev from_to : ℕ → ℕ → List Row
  from_to q n = map row_at (range_with_len q (n - q))

  -- what holds of the rows between holds of each of them
  each_between : (q n : ℕ) (P : Row → Type 0) → q ≤ n → ((k : ℕ) → q ≤ k → k < n → P (row_at k)) → (r : Row) → In r (from_to q n) → P r
  each_between q n P le h r i =
      let k = of_mapped row_at r (range_with_len q (n - q)) i in
      let b = in_range q (n - q) k.0 k.1 in
      subst P k.2 (h k.0 b.0 (omega (arith, b.1, le)))

  -- where nothing comes of them, it is with them as without
  pub more_rows : (q n : ℕ) → q ≤ n → (images : Images) → ((k : ℕ) → q ≤ k → k < n → row_writes images layout (row_at k) ≡ [])
      → rows_writes layout (rows_below n) images ≡ rows_writes layout (rows_below q) images
  more_rows q n le images idle =
      ap (λ rs. rows_writes layout rs images) (rows_split kept (targets layout wants) chunk q n le)
      ∙ flat_map-append (row_writes images layout) (rows_below q) (from_to q n)
      ∙ ap (λ ws. rows_writes layout (rows_below q) images ++ ws)
      (flat_none (row_writes images layout) (from_to q n) (each_between q n (λ r. row_writes images layout r ≡ []) le idle))
      ∙ append-nil (rows_writes layout (rows_below q) images)

  -- so are the counts
  pub more_counts : (write : Bool) (q n : ℕ) → q ≤ n → (images : Images) (x : Tally)
      → ((k : ℕ) → q ≤ k → k < n → count_row images layout write (rows_count layout write (rows_below q) images x) (row_at k)
      ≡ rows_count layout write (rows_below q) images x) → rows_count layout write (rows_below n) images x ≡ rows_count layout write (rows_below q) images x
  more_counts write q n le images x idle =
      let u = rows_count layout write (rows_below q) images x in
      ap (λ rs. rows_count layout write rs images x) (rows_split kept (targets layout wants) chunk q n le)
      ∙ fold-append (count_row images layout write) x (rows_below q) (from_to q n)
      ∙ fold_none (count_row images layout write) u (from_to q n) (each_between q n (λ r. count_row images layout write u r ≡ u) le idle)

  -- so it is where they are empty
  pub empty_rows : (q n : ℕ) → q ≤ n → ((k : ℕ) → q ≤ k → k < n → (row_at k).blocks ≡ []) → (images : Images)
      → rows_writes layout (rows_below n) images ≡ rows_writes layout (rows_below q) images
  empty_rows q n le empty images =
      more_rows q n le images (λ k from to. empty_writes images layout (row_at k) (empty k from to))

  -- and so are the counts there
  pub empty_counts : (write : Bool) (q n : ℕ) → q ≤ n → ((k : ℕ) → q ≤ k → k < n → (row_at k).blocks ≡ [])
      → (images : Images) (x : Tally) → rows_count layout write (rows_below n) images x ≡ rows_count layout write (rows_below q) images x
  empty_counts write q n le empty images x =
      let u = rows_count layout write (rows_below q) images x in
      more_counts write q n le images x (λ k from to. empty_count images layout write u (row_at k) (empty k from to))

  -- ---- one row more

  -- the blocks that come next lie in this row, and those behind them don't
  pub record IsNextRow (q : ℕ) (past left' : List Want) (r : ℕ) (mine : List Want) : Type 0 where
    pub split : wants ≡ past ++ (mine ++ left')
    pub later : q ≤ r
    pub fits : r * 65536 + 65536 ≤ stripe_length chunk
    pub before : (t : Target) → In t (targets layout past) → (t.chunk ≡ chunk) × (t.at.row < q)
    pub each : (w : Want) → In w mine → (t : Target) × (sought layout w ≡ Ok t) × (t.chunk ≡ chunk) × (t.at.row ≡ r)
    pub behind : (t : Target) → In t (targets layout left') → t.chunk ≡ chunk → r + 1 ≤ t.at.row
    pub end : ℕ
    pub from : chunk.start ≤ end
    pub apart : AreApart layout end left'
    pub head : Target
    pub tail : List Target
    pub some_block : targets layout mine ≡ head ∷ tail

  module _ {q : ℕ} {past left' : List Want} {r : ℕ} {mine : List Want} (n : IsNextRow q past left' r mine) where
    -- the blocks of all wants are those before, those of these wants, and those that are left
    parts : targets layout wants ≡ targets layout past ++ (targets layout mine ++ targets layout left')
    parts = ap (targets layout) n.split ∙ targets_both layout past (mine ++ left')
        ∙ ap (λ ts. targets layout past ++ ts) (targets_both layout mine left')

    -- the blocks of these wants lie in this row
    pub mine_is : (t : Target) → In t (targets layout mine) → (t.chunk ≡ chunk) × (t.at.row ≡ r)
    mine_is t i =
        let w = of_targets layout t mine i in
        let e = n.each w.0 w.1 in
        let both = sym e.1 ∙ w.2 in
        let same : e.0 ≡ t = cc both in
        subst (λ u. (u.chunk ≡ chunk) × (u.at.row ≡ r)) same (e.2, e.3)

    -- the blocks of these wants are the next that lie in one row
    group : IsNextGroup (is_in_row chunk) q (targets layout past) r (targets layout mine) (targets layout left')
    group = record {
      later = n.later;
      before = λ k t i from. row_is_not s.of k t (target_sought layout past t i) (λ c e. omega (arith, e, (n.before t i).1, from));
      each = λ t i. let m = mine_is t i in ap (λ b. b && eqb t.at.row r) (eq-eqb t.chunk.start chunk.start (ap (λ (c : Chunk). c.start) m.0))
          ∙ eq-eqb t.at.row r m.1;
      no_other = λ k t i to. row_is_not s.of k t (target_sought layout mine t i) (λ c e. omega (arith, e, (mine_is t i).1, to));
      behind = λ k t i to. row_is_not s.of k t (target_sought layout left' t i) (λ c e. omega (arith, e, n.behind t i c, to));
    }

    -- a row between has no block
    pub between_empty : (k : ℕ) → q ≤ k → k < r → (row_at k).blocks ≡ []
    between_empty k from to = ap (filter (is_in_row chunk k)) parts ∙ group_between group k from to

    -- the row has these
    pub row_blocks : (row_at r).blocks ≡ targets layout mine
    row_blocks = ap (filter (is_in_row chunk r)) parts ∙ group_is group

    -- the rows up to this one are those before it, and it
    pub last_row : rows_below (r + 1) ≡ rows_below r ++ row_at r ∷ []
    last_row =
        let z : 0 + r ≡ r = omega arith in
        ap (map row_at) (range_split 0 r 1)
        ∙ map-append row_at (range_with_len 0 r) (range_with_len (0 + r) 1)
        ∙ ap (λ k. rows_below r ++ row_at k ∷ []) z

    -- ---- the row, as it is to be mended

    -- it is counted, as it has some block
    pub counts_row : (write : Bool) (images : Images) (x : Tally)
        → counted_row x (mended_row images layout (row_at r) write) ≡ count_row images layout write x (row_at r)
    counts_row write images x =
        let row = row_at r in
        let e : row.blocks ≡ n.head ∷ n.tail = row_blocks ∙ n.some_block in
        sym (ap (λ bs. count_row_of bs x (mended_row images layout row write)) e)

    -- what is told of it stays when the rows before it are mended
    pub unmoved_row : (write : Bool) (held : Option Images) → ((images : Images) → held ≡ Some images → HaveLengths images layout)
        → IsUnmoved layout write (rows_writes layout (rows_below r)) (λ images. row_writes images layout (row_at r))
        (λ images x. count_row images layout write x (row_at r)) held
    unmoved_row write held lengths images e =
        let row = row_at r in
        let l = lengths images e in
        let here = is_there r (omega arith) in
        unmoved_by write images (row_writes images layout) (rows_below r) (λ slot off. (q : Part) × IsOfElement layout row q slot off)
        (λ after. (row_writes after layout row ≡ row_writes images layout row)
        × ((x : Tally) → count_row after layout write x row ≡ count_row images layout write x row))
        (each_row kept (targets layout wants) chunk r (λ x. All (Short images) (row_writes images layout x))
        (λ k lt. let of = is_there k (omega (arith, lt)) in row_short layout (row_at k) s.of.table of.is images l of.blocks))
        (each_row kept (targets layout wants) chunk r
        (λ x. (slot off : ℕ) → list_any (λ (w : Write). covers slot off w.range) (row_writes images layout x) ≡ true
        → (q : Part) × IsOfElement layout row q slot off → ⊥)
        (λ k lt slot off h o.
        let of = is_there k (omega (arith, lt)) in
        let other = row_at k in
        let w = written_row layout other s.of.table of.is images slot off of.blocks h in
        let same = elements_apart layout other row w.0 o.0 slot off s.of.table s.own w.1 o.1 in
        omega (arith, lt, same.1)))
        (λ after ranges keeps free.
        let alike = row_stays layout row s.of.table here.is images l after ranges here.blocks keeps (λ q slot off o. free slot off (q, o)) in
        (row_writes_alike images after layout row row.failing alike, λ x. row_counted images after layout write row row.failing x alike))
      where
        -- the rows up to this one are full stripes of the chunk
        is_there : (k : ℕ) → k ≤ r → OfRows layout number (row_at k)
        is_there k le = row_is s kept wants k (omega (arith, le, n.fits))

    -- what comes of wants that have positions are these
    all_sought : (ws : List Want) → ((w : Want) → In w ws → (t : Target) × (sought layout w ≡ Ok t)) → map (sought layout) ws ≡ map is_at (targets layout ws)
    all_sought [] h = refl
    all_sought (w ∷ ws) h =
        let t = h w (inl refl) in
        ap (λ r. r ∷ map (sought layout) ws) t.1 ∙ ap (λ rs. Ok t.0 ∷ rs) (all_sought ws (λ v i. h v (inr i)))
        ∙ sym (ap (λ r. map is_at (cons_option (ok_or_none r) (targets layout ws))) t.1)

    -- the row of the blocks that were collected
    pub is_row_of : IsRowOf layout chunk.start r mine (row_at r)
    is_row_of = record {
      stripe = record {
        chunk = start_there s.of;
        number_is = refl;
        parity = s.of.parity;
        inside = n.fits;
        stand = λ p has. element_stands s kept wants r p n.fits has;
      };
      blocks = all_sought mine (λ w i. let e = n.each w i in (e.0, e.1)) ∙ ap (map is_at) (sym row_blocks);
      lie = all_from (IsOn (row_at r)) (row_at r).blocks (λ t i. let m = mine_is t (subst (In t) row_blocks i) in record { chunk = m.0; number = m.1 });
    }
