-- Full stripes that hold nothing but plain sectors, in a chunk no image of which is in doubt, are passed at once.
use Rattle.std.proofs.Common.{◌≡◌, ℕ, ◌+◌, ◌*◌, ◌<◌, ◌≤◌, Bool, true, false, List, [], ◌∷◌, ◌++◌, length, Option, Some, None, refl, sym, ap, ◌∙◌, subst, inl}
use Rattle.std.proofs.Common.{inr, arith, append_assoc, length-append}
use Rattle.btr_scrub.proofs.Common.{Chunk, Failing, Images, In, Layout, MendedRow, Seen, Tally, Target, Want, alone, count_row, count_row_of, counted_row}
use Rattle.btr_scrub.proofs.Common.{has_doubtful, in_either, is_in_row, is_plain, mended_row, passing_filter, plains_from, row_of, row_writes, rows_count}
use Rattle.btr_scrub.proofs.Common.{targets, untouched}
use Rattle.btr_scrub.specs.Rowing.{IsInert, PassesRows, PassesTo, PassesUnless}
use Rattle.btr_scrub.specs.declared.rowed.PlainRun.{PlainRun}
use Rattle.btr_scrub.proofs.AcrossChunks.{row_is}
use Rattle.btr_scrub.proofs.Blockwise.{targets_both}
use Rattle.btr_scrub.proofs.InertRows.{inert_counts, inert_writes}
use Rattle.btr_scrub.proofs.Lists.{all_from}
use Rattle.btr_scrub.proofs.NextRow.{more_counts, more_rows}
use Rattle.btr_scrub.proofs.RowNumbers.{IsWholeChunk, rows_to}
use Rattle.btr_scrub.proofs.RowWrites.{IsBlockOf}
use Rattle.btr_scrub.proofs.Rowwise.{RowsUnderway}
use Rattle.btr_scrub.proofs.PlainRows.{LieBelow, lie_below}
use Rattle.btr_scrub.proofs.Scrubbing.{scrubs_as, told}

-- a row of which nothing comes is counted as none, where the counts stand still
count_still : (ts : List Target) (u : Tally) (w : MendedRow) → w ≡ untouched → counted_row u untouched ≡ u → count_row_of ts u w ≡ u
count_still [] u w e still = refl
count_still (t ∷ ts) u w e still = ap (counted_row u) e ∙ still

module _ {layout : Layout} {number : ℕ} {chunk : Chunk} (s : IsWholeChunk layout number chunk) (kept : Failing) (wants : List Want) where
  -- the blocks and plain sectors of the wants that have a position
  abbrev ts : List Target
  ts = targets layout wants

  module _ {write : Bool} {left : List Want} {m m' : List Bool} {a b : Seen} {tally tally' : Tally}
      (h : RowsUnderway s kept wants write left m m' a b tally tally') (sure : has_doubtful layout.devices kept chunk ≡ false)
      (still : (images : Images) → a.held ≡ Some images → counted_row tally' untouched ≡ tally') (new : List Want) (run : PlainRun)
      (p : PassesTo chunk left run new) where
    -- the sectors that are passed
    abbrev past : List Want
    past = plains_from run.addr run.count

    -- the sectors that are passed lie in rows below the one that starts there
    lie : LieBelow layout chunk run p.row left new
    lie = lie_below s.of h.are.end h.are.from left new h.are.apart run p

    -- which isn't before those that come next
    not_before : h.are.q ≤ p.row
    not_before = lie.rises h.are.q h.are.ahead

    -- the blocks of all wants are those before, those that are passed, and those that are left
    parts : ts ≡ targets layout h.are.past ++ (targets layout past ++ targets layout new)
    parts = ap (targets layout) (h.are.split ∙ ap (λ ws. h.are.past ++ ws) p.split) ∙ targets_both layout h.are.past (past ++ new)
        ∙ ap (λ us. targets layout h.are.past ++ us) (targets_both layout past new)

    -- a row between holds nothing but plain sectors
    module _ (k : ℕ) (from_q : h.are.q ≤ k) (to : k < p.row) where
      -- a block of such a row lies in it
      in_row : (t : Target) → In t (row_of kept ts chunk k).blocks → IsBlockOf layout (row_of kept ts chunk k) t
      in_row t i = (row_is s kept wants k (omega (arith, lie.fits, to))).blocks t i

      -- so nothing comes of it
      inert : IsInert layout (row_of kept ts chunk k)
      inert = record { plain = all_from (λ t. is_plain t.want ≡ true) (row_of kept ts chunk k).blocks bare; sure = sure }
        where
          -- each of its blocks is a plain sector
          bare : (t : Target) → In t (row_of kept ts chunk k).blocks → is_plain t.want ≡ true
          bare t i =
              let is = in_row t i in
              let f = passing_filter (is_in_row chunk k) t ts i in
              elim (in_either t (targets layout h.are.past) (targets layout past ++ targets layout new) (subst (In t) parts f.0)) [
                | inl j ↦ absurd (omega (arith, (h.are.sound t j).1, is.number, from_q))
                | inr j ↦ elim (in_either t (targets layout past) (targets layout new) j) [
                  | inl l ↦ (lie.below t l).0
                  | inr l ↦ absurd (omega (arith, lie.later t l is.chunk, is.number, to))
                ]
              ]

      -- nothing is written there
      none_written : (images : Images) → row_writes images layout (row_of kept ts chunk k) ≡ []
      none_written images = inert_writes layout s.of.table (row_of kept ts chunk k) (λ t i. let is = in_row t i in (is.is, is.chunk)) s.of.parity inert images

      -- and nothing counted
      none_counted : (images : Images) (u : Tally) → counted_row u untouched ≡ u → count_row images layout write u (row_of kept ts chunk k) ≡ u
      none_counted images u settled = count_still (row_of kept ts chunk k).blocks u (mended_row images layout (row_of kept ts chunk k) write)
          (inert_counts layout s.of.table (row_of kept ts chunk k) (λ t i. let is = in_row t i in (is.is, is.chunk)) s.of.parity inert images write) settled

    -- so the rows up to the one that starts there are mended
    passed : RowsUnderway s kept wants write new m m' a b tally tally'
    passed = record {
      are = record {
        past = h.are.past ++ past;
        split = h.are.split ∙ ap (λ ws. h.are.past ++ ws) p.split ∙ sym (append_assoc h.are.past past new);
        q = p.row;
        below = omega (arith, lie.fits);
        sound = λ t i. elim (in_either t (targets layout h.are.past) (targets layout past) (subst (In t) (targets_both layout h.are.past past) i)) [
          | inl j ↦ let e = h.are.sound t j in (e.0, omega (arith, e.1, not_before))
          | inr j ↦ let e = lie.below t j in (e.1, e.2)
        ];
        end = run.addr + run.count * 4096;
        from = lie.from;
        apart = lie.behind;
        ahead = lie.later;
      };
      done = scrubs_as (alone layout chunk) write h.done (λ images e. (
        sym (more_rows s kept wants h.are.q p.row not_before images (λ k f t. none_written k f t images)),
        sym (more_counts s kept wants write h.are.q p.row not_before images tally
            (λ k f t. none_counted k f t images (rows_count layout write (rows_to kept ts chunk h.are.q) images tally) (settled images e))),
      ));
    }
      where
        -- the counts of those before stand still when a row of which nothing comes is counted
        settled : (images : Images) → a.held ≡ Some images → counted_row (rows_count layout write (rows_to kept ts chunk h.are.q) images tally) untouched
            ≡ rows_count layout write (rows_to kept ts chunk h.are.q) images tally
        settled images e = subst (λ u. counted_row u untouched ≡ u)
            (told a.held (λ images. tally' ≡ rows_count layout write (rows_to kept ts chunk h.are.q) images tally) images e h.done.counts) (still images e)

  -- so it is behind what was passed
  pub rows_passed : {write : Bool} {left : List Want} {m m' : List Bool} {a b : Seen} {tally tally' : Tally}
      → RowsUnderway s kept wants write left m m' a b tally tally' → (doubtful : Bool) → (doubtful ≡ false → has_doubtful layout.devices kept chunk ≡ false)
      → ((images : Images) → a.held ≡ Some images → counted_row tally' untouched ≡ tally') → (new : List Want) → PassesUnless doubtful chunk left new
      → RowsUnderway s kept wants write new m m' a b tally tally'
  rows_passed h true sure still new p = rw p h
  rows_passed {write} {left} {m} {m'} {a} {b} {tally} {tally'} h false sure still new p = by p.0 p.1
    where
      by : (run : Option PlainRun) → PassesRows chunk left run new → RowsUnderway s kept wants write new m m' a b tally tally'
      by None none = rw none h
      by (Some run) to = passed h (sure refl) still new run to

-- nothing is left that wasn't before
pub passed_shorter : (doubtful : Bool) (chunk : Chunk) (left new : List Want) → PassesUnless doubtful chunk left new → length new ≤ length left
passed_shorter true chunk left new p = omega (arith, ap length p)
passed_shorter false chunk left new p = by p.0 p.1
  where
    by : (run : Option PlainRun) → PassesRows chunk left run new → length new ≤ length left
    by None none = omega (arith, ap length none)
    by (Some run) to = omega (arith, ap length to.split, length-append (plains_from run.addr run.count) new)
