-- The full stripes of a chunk with parity, one after another.
use Rattle.std.proofs.Common.{◌≡◌, ℕ, ◌+◌, ◌-◌, ◌/◌, ◌<◌, ◌≤◌, Bool, true, List, [], ◌∷◌, ◌++◌, map, Some, ◌≢◌, Result, Ok, Err, refl, sym, ap, ◌∙◌, subst, inl}
use Rattle.std.proofs.Common.{inr, arith, append_assoc, append-nil}
use Rattle.std.proofs.lemmas.Grind.{flat_map-append}
use Rattle.btr_scrub.proofs.Common.{AreApart, BeginsBehind, Chunk, Failing, HaveLengths, Images, In, IsOfScrub, IsPastChunk, Layout, Memory, MendFault}
use Rattle.btr_scrub.proofs.Common.{MendedRow, Row, Scrubs, Seen, Tally, Target, Want, addr_of, alone, cons_option, count_row, counted_row, filter, fold, holds}
use Rattle.btr_scrub.proofs.Common.{in_either, in_left, is_in_row, len_of, mended_row, ok_or_none, plain, position, range_with_len, row_of, row_writes}
use Rattle.btr_scrub.proofs.Common.{rows_count, rows_in, rows_writes, stood, stripe_length, targets, untouched, write_on, writes_if}
use Rattle.btr_scrub.specs.Rowing.{BeginsElse, Collects, row_in}
use Rattle.btr_scrub.proofs.Blockwise.{all_behind, of_targets, apart_past, target_sought, targets_both}
use Rattle.btr_scrub.proofs.RowNumbers.{IsWholeChunk, all_rows, at_row, held_row, row_fits, row_is_not, row_of_block, row_there, rows_rise, rows_split, rows_to}
use Rattle.btr_scrub.proofs.RowNumbers.{sought_each, tail_apart}
use Rattle.btr_scrub.proofs.NextRow.{IsNextRow, counts_row, empty_counts, empty_rows, mine_is, unmoved_row, between_empty, last_row}
use Rattle.btr_scrub.proofs.Positions.{bounds_of, held_between}
use Rattle.btr_scrub.proofs.Scrubbing.{held_after, told, scrubs_as, scrubs_cut, scrubs_none, scrubs_nothing, scrubs_then, IsUnmoved}
use Rattle.btr_scrub.proofs.Itemwise.{one_cut, one_more, scrubs_steps}
use Rattle.btr_scrub.proofs.Grouping.{filter_later, filter_none}

-- counts stay as they are with a row of which nothing comes, once they have those of one
counted_still : (u : Tally) (w : MendedRow) → counted_row (counted_row u w) untouched ≡ counted_row u w
counted_still u w = λ i. record {
  blocks = still (u.blocks + w.blocks) i;
  bad = still (u.bad + w.bad) i;
  repaired = still (u.repaired + w.repaired) i;
  lost = still (u.lost + w.lost) i;
  parity = still (u.parity + w.parity) i;
  unchecked = u.unchecked;
}
  where
    -- a count that stands still does so when nothing is added
    still : (n : ℕ) → stood (stood n + 0) ≡ stood n
    still n = grind arith

module _ {layout : Layout} {number : ℕ} {chunk : Chunk} (s : IsWholeChunk layout number chunk) (kept : Failing) (wants : List Want) where
  -- the blocks before some that are left lie in the rows below q, and these in later rows, or in later chunks
  pub record ArePast (left : List Want) : Type 0 where
    pub past : List Want
    pub split : wants ≡ past ++ left
    pub q : ℕ
    pub below : q ≤ stripe_length chunk / 65536
    pub sound : (t : Target) → In t (targets layout past) → (t.chunk ≡ chunk) × (t.at.row < q)
    pub end : ℕ
    pub from : chunk.start ≤ end
    pub apart : AreApart layout end left
    pub ahead : (t : Target) → In t (targets layout left) → t.chunk ≡ chunk → q ≤ t.at.row

  -- nothing is past yet
  abbrev pub none_past : AreApart layout chunk.start wants → ArePast wants
  none_past apart = record {
    past = [];
    split = refl;
    q = 0;
    below = omega arith;
    sound = λ t i. absurd i;
    end = chunk.start;
    from = omega arith;
    apart = apart;
    ahead = λ t i e. omega arith;
  }

  -- the full stripes below a number
  abbrev pub rows_below : ℕ → List Row
  rows_below = rows_to kept (targets layout wants) chunk

  -- what was done for some rows
  abbrev pub Over : Bool → List Row → List Bool → List Bool → Seen → Seen → Tally → Tally → Result (Unit {0}) MendFault → Type 0
  Over write rs m n a b t u e = Scrubs {A = Unit {0}} (alone layout chunk) write (rows_writes layout rs) (rows_count layout write rs) m n a b t u e

  -- and the rows below q were mended
  pub record RowsUnderway (write : Bool) (left : List Want) (m m' : List Bool) (a b : Seen) (tally tally' : Tally) : Type 0 where
    pub are : ArePast left
    pub done : Over write (rows_below are.q) m m' a b tally tally' (Ok tt)

  -- no row was mended yet
  pub rows_first : (write : Bool) (m : List Bool) (a : Seen) (tally : Tally) → AreApart layout chunk.start wants → RowsUnderway write wants m m a a tally tally
  rows_first write m a tally apart = record { are = none_past apart; done = scrubs_none (alone layout chunk) write m a tally tt }

  -- ---- which row comes next

  -- the blocks that were collected are those of the row that comes next
  pub next_row : {left : List Want} (h : ArePast left) (mid left' : List Want) (first : Want) (r : ℕ) (ws : List Want)
      → left ≡ first ∷ mid → row_in chunk (addr_of first) ≡ Some r → (c : Collects chunk r first mid left' ws) → IsNextRow s kept wants h.q h.past left' r ws
  next_row {left} h mid left' first r ws is in_row c =
      let mine = first ∷ c.more in
      let whole : left ≡ mine ++ left' = is ∙ ap (λ xs. first ∷ xs) c.split in
      let apart : AreApart layout h.end (mine ++ left') = subst (AreApart layout h.end) whole h.apart in
      let t0 = sought_each layout h.end (mine ++ left') apart first (inl refl) in
      let zero_row = at_row s.of first t0.0 r t0.1 in_row in
      let head : targets layout mine ≡ t0.0 ∷ targets layout c.more = ap (λ x. cons_option (ok_or_none x) (targets layout c.more)) t0.1 in
      let there_first : In t0.0 (targets layout left) =
      subst (λ xs. In t0.0 (targets layout xs)) (sym whole) (subst (In t0.0)
      (sym (ap (λ x. cons_option (ok_or_none x) (targets layout (c.more ++ left'))) t0.1)) (inl refl)) in
      let held = row_there chunk (addr_of first) r in_row in
      let tail = tail_apart layout h.end mine left' apart in
      subst (IsNextRow s kept wants h.q h.past left' r) (sym c.are) (record {
        split = h.split ∙ ap (λ xs. h.past ++ xs) whole;
        later = omega (arith, h.ahead t0.0 there_first zero_row.0, zero_row.1);
        fits = omega (arith, row_fits s.of (addr_of first) held.0, held.1);
        before = h.sound;
        each = λ w i. let t = sought_each layout h.end (mine ++ left') apart w (in_left w mine left' i) in
            let x = at_row s.of w t.0 r t.1 (each_in w i) in (t.0, t.1, x.0, x.1);
        behind = λ t i mine_too. later_rows t i mine_too tail.0 tail.2 (omega (arith, tail.3 first (inl refl)));
        end = tail.0;
        from = omega (arith, h.from, tail.1);
        apart = tail.2;
        head = t0.0;
        tail = targets layout c.more;
        some_block = head;
      })
    where
      -- each of the blocks that were collected lies in the row
      each_in : (w : Want) → In w (first ∷ c.more) → row_in chunk (addr_of w) ≡ Some r
      each_in w (inl e) = subst (λ v. row_in chunk (addr_of v) ≡ Some r) e in_row
      each_in w (inr i) = c.inside w i

      -- those that are left lie in later rows, as the first of them doesn't lie in this one
      later_rows : (t : Target) → In t (targets layout left') → t.chunk ≡ chunk → (e : ℕ) → AreApart layout e left' → addr_of first ≤ e → r + 1 ≤ t.at.row
      later_rows t i mine_too e apart le =
          let w = of_targets layout t left' i in
          let of = row_of_block s.of w.0 t w.2 mine_too in
          by left' c.next apart w.0 w.1 of.0 of.1
        where
          by : (xs : List Want) → BeginsElse chunk r xs → AreApart layout e xs → (w : Want) → In w xs → holds chunk (addr_of w) ≡ true
              → (position chunk (addr_of w)).row ≡ t.at.row → r + 1 ≤ t.at.row
          by [] else apart w i held row = absurd i
          by (v ∷ vs) else apart w i held row =
              let le_v : addr_of v ≤ addr_of w = first_le v vs w apart i in
              let v_held = held_between chunk (addr_of v)
              (omega (arith, (bounds_of chunk (addr_of first) (row_there chunk (addr_of first) r in_row).0).0, le, apart.0))
              (omega (arith, le_v, (bounds_of chunk (addr_of w) held).1)) in
              let not_r : (position chunk (addr_of v)).row ≢ r = λ same. else (held_row chunk (addr_of v) v_held ∙ ap Some same) in
              let from_first = rows_rise s.of (addr_of first) (addr_of v) (omega (arith, le, apart.0)) in
              let to_w = rows_rise s.of (addr_of v) (addr_of w) le_v in
              let r_is = (row_there chunk (addr_of first) r in_row).1 in
              omega (arith, from_first, r_is, to_w, row, not_r)
            where
              -- the first of blocks that are apart has the least address
              first_le : (v : Want) (vs : List Want) (w : Want) → AreApart layout e (v ∷ vs) → In w (v ∷ vs) → addr_of v ≤ addr_of w
              first_le v vs w apart (inl same) = omega (arith, ap addr_of same)
              first_le v vs w apart (inr i) = let b = all_behind layout (addr_of v + len_of layout.setting v) vs apart.2 w i in omega (arith, b)

  -- those of the chunk are past
  pub rows_past : {left : List Want} → ArePast left → BeginsBehind (chunk.start + chunk.length) left → IsPastChunk layout chunk wants left
  rows_past {left} h begins = record {
    past = h.past;
    split = h.split;
    inside = λ t i. (h.sound t i).0;
    behind = apart_past layout h.end (chunk.start + chunk.length) left begins h.apart;
  }

  -- then the rows from q on have no block
  none_later : {left : List Want} (h : ArePast left) → IsPastChunk layout chunk wants left → (k : ℕ) → h.q ≤ k
      → (row_of kept (targets layout wants) chunk k).blocks ≡ []
  none_later {left} h p k from =
      ap (filter (is_in_row chunk k)) (ap (targets layout) h.split ∙ targets_both layout h.past left)
      ∙ filter_later (is_in_row chunk k) (targets layout h.past) (targets layout left)
      (λ t i. row_is_not s.of k t (target_sought layout h.past t i) (λ c e. omega (arith, e, (h.sound t i).1, from)))
      ∙ filter_none (is_in_row chunk k) (targets layout left) (λ t i.
      let w = of_targets layout t left i in
      let out = all_behind layout (chunk.start + chunk.length) left p.behind w.0 w.1 in
      row_is_not s.of k t (target_sought layout left t i)
      (λ c e. let held = (row_of_block s.of w.0 t w.2 c).0 in omega (arith, out, (bounds_of chunk (addr_of w.0) held).1)))

  module _ {write : Bool} {left : List Want} {m m' : List Bool} {a b : Seen} {tally tally' : Tally} (h : RowsUnderway write left m m' a b tally tally') where
    -- those up to another, where those between are empty
    rows_up : (n : ℕ) → h.are.q ≤ n → ((k : ℕ) → h.are.q ≤ k → k < n → (row_of kept (targets layout wants) chunk k).blocks ≡ [])
        → Over write (rows_below n) m m' a b tally tally' (Ok tt)
    rows_up n le empty =
        scrubs_as (alone layout chunk) write h.done (λ images e. (
          sym (empty_rows s kept wants h.are.q n le empty images),
          sym (empty_counts s kept wants write h.are.q n le empty images tally),
        ))

    -- those of the chunk were all mended
    pub rows_done : IsPastChunk layout chunk wants left → Over write (rows_in kept (targets layout wants) chunk) m m' a b tally tally' (Ok tt)
    rows_done p = subst (λ rs. Over write rs m m' a b tally tally' (Ok (tt {0}))) (sym (all_rows kept (targets layout wants) chunk s.of.parity))
        (rows_up (stripe_length chunk / 65536) h.are.below (λ k le lt. none_later h.are p k le))

    -- there was no memory for the blocks of the next row
    pub rows_short : Over write (rows_in kept (targets layout wants) chunk) m m' a b tally tally' (Err Memory)
    rows_short =
        let n = stripe_length chunk / 65536 in
        let done = rows_below h.are.q in
        let rest = map (row_of kept (targets layout wants) chunk) (range_with_len h.are.q (n - h.are.q)) in
        let all = done ++ rest in
        subst (λ rs. Over write rs m m' a b tally tally' (Err Memory))
        (sym (all_rows kept (targets layout wants) chunk s.of.parity ∙ rows_split kept (targets layout wants) chunk h.are.q n h.are.below))
        (scrubs_as (alone layout chunk) write
        (scrubs_cut (alone layout chunk) write (Unit {0}) (Unit {0}) (λ i. rows_writes layout done i ++ []) (rows_writes layout rest)
        (rows_count layout write done) (rows_count layout write all) m m' a b tally tally' Memory
        (scrubs_then (alone layout chunk) write (Unit {0}) (Unit {0}) (rows_writes layout done) (λ i. []) (rows_count layout write done) (λ i y. y)
        m m' m' a b b tally tally' tally' tt (Err Memory) (λ images e. (refl, λ x. refl)) h.done (scrubs_nothing (alone layout chunk) write m' b tally')))
        (λ images e. (
          ap (λ ws. ws ++ rows_writes layout rest images) (append-nil (rows_writes layout done images))
              ∙ sym (flat_map-append (row_writes images layout) done rest),
          refl,
        )))

    module _ (lengths : (images : Images) → a.held ≡ Some images → HaveLengths images layout) {left' : List Want} {r : ℕ} {mine : List Want}
        (n : IsNextRow s kept wants h.are.q h.are.past left' r mine) where
      -- the row that comes next
      abbrev row : Row
      row = row_of kept (targets layout wants) chunk r

      -- it was mended, by its own counts or by those of one more
      abbrev ForNext : (Images → Tally → Tally) → List Bool → Seen → Tally → Result (Unit {0}) MendFault → Type 0
      ForNext c m'' z tally'' e = Scrubs {A = Unit {0}} (alone layout chunk) write (λ images. row_writes images layout row) c m' m'' b z tally' tally'' e

      -- the counts, with what comes of mending the row
      abbrev own_counts : Images → Tally → Tally
      own_counts images x = counted_row x (mended_row images layout row write)

      -- the same, if the row has a block
      abbrev one_counted : Images → Tally → Tally
      one_counted images x = count_row images layout write x row

      -- those below it were mended
      below : Over write (rows_below r) m m' a b tally tally' (Ok tt)
      below = rows_up r n.later (between_empty s kept wants n)

      -- they leave what is told of it
      unmoved : IsUnmoved (alone layout chunk) write (rows_writes layout (rows_below r)) (λ images. row_writes images layout row) one_counted a.held
      unmoved = unmoved_row s kept wants n write a.held lengths

      -- what was counted for it
      counted_for : {m'' : List Bool} {z : Seen} {tally'' : Tally} (e : Result (Unit {0}) MendFault) → ForNext own_counts m'' z tally'' e
          → ForNext one_counted m'' z tally'' e
      counted_for e one = scrubs_as (alone layout chunk) write one (λ images q. (refl, counts_row s kept wants n write images tally'))

      -- one row more
      pub rows_more : {m'' : List Bool} {z : Seen} {tally'' : Tally} → ForNext own_counts m'' z tally'' (Ok (tt {0}))
          → RowsUnderway write left' m m'' a z tally tally''
      rows_more {m''} {z} {tally''} one = record {
        are = record {
          past = h.are.past ++ mine;
          split = n.split ∙ sym (append_assoc h.are.past mine left');
          q = r + 1;
          below = omega (arith, n.fits);
          sound = λ t i. elim (in_either t (targets layout h.are.past) (targets layout mine) (subst (In t) (targets_both layout h.are.past mine) i)) [
            | inl j ↦ let s = n.before t j in (s.0, omega (arith, s.1, n.later))
            | inr j ↦ let m = mine_is s kept wants n t j in (m.0, omega (arith, m.1))
          ];
          end = n.end;
          from = n.from;
          apart = n.apart;
          ahead = n.behind;
        };
        done = subst (λ rs. Over write rs m m'' a z tally tally'' (Ok (tt {0}))) (sym (last_row s kept wants n))
            (one_more (scrubs_steps (alone layout chunk) write) (λ images. row_writes images layout)
            (λ images. count_row images layout write) (rows_below r) row unmoved below (counted_for (Ok tt) one));
      }

      -- the counts with it stay as they are with a row of which nothing comes
      pub rows_settled : {m'' : List Bool} {z : Seen} {tally'' : Tally} → ForNext own_counts m'' z tally'' (Ok (tt {0})) → (images : Images)
          → a.held ≡ Some images → counted_row tally'' untouched ≡ tally''
      rows_settled {tally''} one images held =
          let ws = λ (i : Images). writes_if write (rows_writes layout (rows_below h.are.q) i) in
          let after = held_after (IsOfScrub (alone layout chunk)) ws [] [] (plain a) (plain b) (tt {0}) images held h.done.does in
          let now = fold write_on images (ws images) in
          let is = told b.held (λ images. tally'' ≡ own_counts images tally') now after one.counts in
          ap (λ u. counted_row u untouched) is ∙ counted_still tally' (mended_row now layout row write) ∙ sym is

      -- a halt in it
      pub rows_cut : {m'' : List Bool} {z : Seen} {tally'' : Tally} (fault : MendFault) → ForNext own_counts m'' z tally'' (Err fault)
          → Over write (rows_in kept (targets layout wants) chunk) m m'' a z tally tally'' (Err fault)
      rows_cut {m''} {z} {tally''} fault one =
          let all = stripe_length chunk / 65536 in
          let rest = map (row_of kept (targets layout wants) chunk) (range_with_len (r + 1) (all - (r + 1))) in
          let parts : rows_in kept (targets layout wants) chunk ≡ rows_below r ++ row ∷ rest =
          all_rows kept (targets layout wants) chunk s.of.parity ∙ rows_split kept (targets layout wants) chunk (r + 1) all (omega (arith, n.fits))
          ∙ ap (λ rs. rs ++ rest) (last_row s kept wants n)
          ∙ append_assoc (rows_below r) (row ∷ []) rest in
          subst (λ rs. Over write rs m m'' a z tally tally'' (Err fault)) (sym parts)
          (one_cut (scrubs_steps (alone layout chunk) write) (λ images. row_writes images layout) (λ images. count_row images layout write) (rows_below r) row
          unmoved below rest fault (counted_for (Err fault) one))
