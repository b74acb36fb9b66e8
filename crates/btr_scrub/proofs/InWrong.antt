-- Each range that is written is a place without the committed bytes, or a column of a parity that isn't right there.
use Rattle.std.proofs.Common.{◌≡◌, ◌⊎◌, ℕ, ◌+◌, ◌*◌, ◌/◌, ◌≤◌, Bool, true, false, not, List, map, length, Some, None, refl, sym, ◌∙◌, subst, inl, inr, arith}
use Rattle.btr_scrub.proofs.Common.{AreApart, Chunk, Failing, HaveLengths, HaveOwnSlots, Images, In, IsSought, IsTable, Layout, Part, Range, Row, Target, Want}
use Rattle.btr_scrub.proofs.Common.{Write, accepted, all_writes_for, false≢true, first_missing, flat_map, in_either, is_in_row, is_plain, is_sound}
use Rattle.btr_scrub.proofs.Common.{mending_writes, not-true, own_parts, parities, parity_writes, passing_filter, range_in_element, range_of, range_with_len}
use Rattle.btr_scrub.proofs.Common.{row_of, row_writes, rows_in, stale_parts, stripe_length, targets}
use Rattle.std.specs.List.{Any}
use Rattle.btr_read.specs.Candidates.{element}
use Rattle.btr_read.proofs.Ones.{below_in}
use Rattle.btr_scrub.specs.Right.{Committed, IsOfStale, IsOfWrongParity, IsOfWrongPlace, IsRightIn}
use Rattle.btr_scrub.proofs.AcrossChunks.{row_is, ForCopies, ForRow, for_one}
use Rattle.btr_scrub.proofs.Lists.{any_in, of_flat, of_mapped, in_map, in_some}
use Rattle.btr_scrub.proofs.RowAgreeing.{parity_has, is_sector}
use Rattle.btr_scrub.proofs.SoundRows.{CanBeHad, right_is_sound, right_there, sound_row}
use Rattle.btr_scrub.proofs.Survival.{of_filter}
use Rattle.btr_scrub.proofs.Wrong.{differing_parity_is_wrong}
use Rattle.btr_scrub.proofs.OwnPlaces.{IsOver, is_over}
use Rattle.btr_scrub.proofs.RowNumbers.{IsWholeChunk, all_rows}
use Rattle.btr_scrub.proofs.Writes.{is_parity}

module _ (kept : Failing) (images : Images) (layout : Layout) (C : Committed) (wants : List Want) (table : IsTable layout.chunks)
    (own : HaveOwnSlots layout.devices) (none : first_missing layout ≡ None) (lengths : HaveLengths images layout)
    (had : CanBeHad kept images layout C wants) (apart : AreApart layout 0 wants) where
  -- the blocks and plain sectors of the wants that have a position
  abbrev ts : List Target
  ts = targets layout wants

  -- a range is a place of a block without the committed bytes, or a stale place
  abbrev pub IsWrongSite : Range → Type 0
  IsWrongSite range = ((t : Target) × In t ts × (is_plain t.want ≡ false) × IsOfWrongPlace images C range t)
      ⊎ ((t : Target) × In t ts × IsOfStale images kept range t)

  -- what is written for a block or a plain sector
  of_site : (w : Write) (t : Target) → In t ts → IsSought layout t → In w (mending_writes images kept t) → IsWrongSite w.range
  of_site w t among is i = by (is_plain t.want) refl
    where
      -- the write lies over a place at which something is wrong
      o : IsOver images kept t w
      o = is_over images kept t w i

      by : (b : Bool) → is_plain t.want ≡ b → IsWrongSite w.range
      by true e = inr (
        t,
        among,
        (
          e,
          any_in (λ q. range_of t q ≡ Some w.range) (stale_parts images kept t) o.part (rw e at o.wrong) o.range,
        ),
      )
      by false e =
          let bad = passing_filter (λ q. not (is_sound images t q)) o.part (own_parts t) (rw e at o.wrong) in
          let accepts : accepted images t ≡ Some w.bytes = rw e at o.gets in
          inl (
            t,
            among,
            e,
            any_in (λ q. (range_of t q ≡ Some w.range) × ((C t.want ≡ Some (element images t q)) → ⊥)) (own_parts t) o.part bad.0 (
              o.range,
              λ right. false≢true (sym (not-true (is_sound images t o.part) bad.1)
                  ∙ right_is_sound had t among e is o.part w.bytes accepts right),
            ),
          )

  -- ---- a full stripe

  module _ {number : ℕ} {chunk : Chunk} (s : IsWholeChunk layout number chunk) (r : ℕ) (inside : r * 65536 + 65536 ≤ stripe_length chunk) where
    -- the full stripe of that number
    abbrev row : Row
    row = row_of kept ts chunk r

    -- what is written for a parity lies in a column of it that isn't right
    wrong_parity : (q : Part) → In q (parities chunk.profile) → (w : Write) → In w (parity_writes images layout row q)
        → IsOfWrongParity images layout C w.range row
    wrong_parity q among w i =
        let has = parity_has chunk.profile (length chunk.stripes) q s.of.parity among in
        let at = is_sector images layout row q w i in
        let wrong = differing_parity_is_wrong images layout C row q at.column (sound_row had lengths apart s r inside)
        (right_there had lengths apart s r inside) (is_parity q has.1) at.few at.decided at.differs in
        any_in (λ part. Any (λ column. (range_in_element layout row part (column * 4096) 4096 ≡ Some w.range)
        × (IsRightIn images layout C row column part → ⊥)) (range_with_len 0 16)) (parities chunk.profile) q among
        (any_in (λ column. (range_in_element layout row q (column * 4096) 4096 ≡ Some w.range) × (IsRightIn images layout C row column q → ⊥))
        (range_with_len 0 16) at.column (below_in 16 at.column at.few) (at.range, wrong))

    -- what is written in it
    wrong_row : (w : Write) → In w (row_writes images layout row) → IsOfWrongParity images layout C w.range row ⊎ IsWrongSite w.range
    wrong_row w i = elim (in_either w (flat_map (mending_writes images kept) row.blocks)
        (flat_map (parity_writes images layout row) (parities chunk.profile)) i) [
          | inl j ↦
              let f = of_flat (mending_writes images kept) w row.blocks j in
              let b = (row_is s kept wants r inside).blocks f.0 f.1 in
              inr (of_site w f.0 (of_filter (is_in_row chunk r) f.0 ts f.1) b.is f.2)
          | inr j ↦ let f = of_flat (parity_writes images layout row) w (parities chunk.profile) j in inl (wrong_parity f.0 f.1 w f.2)
        ]

  -- ---- all writes

  -- a range is a column of a parity that isn't right there, or a place of a block without the committed bytes, or a stale
  -- place
  abbrev pub IsWrong : Range → Type 0
  IsWrong range = ((chunk : Chunk) × In chunk layout.chunks × ((row : Row) × In row (rows_in kept ts chunk) × IsOfWrongParity images layout C range row))
      ⊎ IsWrongSite range

  -- each range that is written is wrong so
  pub range_is_wrong : (range : Range) → In range (map (λ (w : Write). w.range) (all_writes_for kept layout layout.chunks wants images)) → IsWrong range
  range_is_wrong range i =
      let w = of_mapped (λ (w : Write). w.range) range (all_writes_for kept layout layout.chunks wants images) i in
      subst IsWrong w.2 (by w.0 (for_one kept layout table own none wants images w.0 w.1))
    where
      by : (w : Write) → ForCopies kept images layout wants w ⊎ ForRow kept images layout wants w → IsWrong w.range
      by w (inl f) = inr (of_site w f.block f.among f.is f.written)
      by w (inr f) =
          let row = row_of kept ts f.chunk f.row in
          let listed = subst (In row) (sym (all_rows kept ts f.chunk f.whole.of.parity)) (in_map (row_of kept ts f.chunk) f.row
          (range_with_len 0 (stripe_length f.chunk / 65536)) (below_in (stripe_length f.chunk / 65536) f.row (omega (arith, f.inside)))) in
          elim (wrong_row f.whole f.row f.inside w f.written) [
            | inl wrong ↦ inl (f.chunk, in_some f.chunk layout.chunks f.number f.whole.of.there, (row, listed, wrong))
            | inr site ↦ inr site
          ]
