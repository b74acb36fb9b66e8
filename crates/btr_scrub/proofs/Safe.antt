-- A filesystem whose blocks can all be had again is safe at any write.
use Rattle.std.proofs.Common.{◌≡◌, ◌⊎◌, ◌<◌, true, false, not, List, map, None, IsSome, IfSome, sym, ap, subst, inl, inr}
use Rattle.btr_scrub.proofs.Common.{AreApart, HaveLengths, HaveOwnSlots, Images, In, IsSlice, IsTable, KeepsOutside, Layout, Range, Target, Want, Write, all_at}
use Rattle.btr_scrub.proofs.Common.{all_writes_for, fresh, is_checked, is_plain, mirrors, not-true, passing_filter, row_of, rows_in, size_of, targets}
use Rattle.btr_scrub.proofs.Common.{wants_among}
use Rattle.btr_read.specs.Fate.{fate}
use Rattle.btr_scrub.specs.Filesystem.{Filesystem}
use Rattle.btr_scrub.specs.Repair.{blocks, failed, met, ranges, rows, sites}
use Rattle.btr_scrub.specs.Right.{AreBytes, CanBeSpared, Committed, HasFewWrongAt, HasRightPlace, IsOfStale, IsOfWrongParity, IsOfWrongPlace, IsCommitted}
use Rattle.btr_scrub.specs.Right.{IsWrongRange, RangesLeaveFresh, RangesLieInWrong, RangesMayHoldAnything, StandsFor}
use Rattle.btr_scrub.proofs.InWrong.{IsWrong, range_is_wrong}
use Rattle.btr_scrub.proofs.Lists.{all_from, any_in, in_flat, in_filter}
use Rattle.btr_scrub.proofs.Outliving.{block_outlives, fresh_outlives}
use Rattle.btr_scrub.proofs.SoundRows.{CanBeHad}
use Rattle.btr_scrub.proofs.Told.{writes_beside, targets_met}
use Rattle.btr_scrub.proofs.Unitwise.{units_apart}

module _ (images : Images) (fs : Filesystem) (table : IsTable fs.layout.chunks) (own : HaveOwnSlots fs.layout.devices)
    (lengths : HaveLengths images fs.layout) (bytes : AreBytes images) (node : fs.sup.nodesize ≡ fs.layout.setting.nodesize) (some : 0 < fs.sup.nodesize) where
  abbrev layout : Layout
  layout = fs.layout

  -- the wants of all that is met
  abbrev wants : List Want
  wants = wants_among (met images fs)

  -- the blocks of the wants are the sites
  same : targets layout wants ≡ sites images fs
  same = targets_met layout (met images fs)

  -- a site that isn't a plain sector is a checked block, and the other way round
  block_of : (t : Target) → In t (targets layout wants) → is_plain t.want ≡ false → In t (blocks images fs)
  block_of t i checked = in_filter is_checked t (sites images fs) (subst (In t) same i) (ap not checked)

  -- a checked block is one of the wants' blocks, and no plain sector
  of_block : (t : Target) → In t (blocks images fs) → In t (targets layout wants) × (is_plain t.want ≡ false)
  of_block t i =
      let f = passing_filter is_checked t (sites images fs) i in
      (subst (In t) (sym same) f.0, not-true (is_plain t.want) f.1)

  -- the wants that are met have positions and are apart
  apart : AreApart layout 0 wants
  apart = units_apart fs.sup layout table node some (fate images layout)

  -- images that are as before outside the ranges of the repair are so outside those of all writes for the wants
  written : (left : Images) → KeepsOutside (ranges images fs) images left
      → KeepsOutside (map (λ (w : Write). w.range) (all_writes_for (failed images fs) layout layout.chunks wants images)) images left
  written left keeps = subst (λ ws. KeepsOutside (map (λ (w : Write). w.range) ws) images left) (sym (writes_beside images fs)) keeps

  -- what is known of what was committed holds of the wants' checked blocks
  had : (C : Committed) → IsCommitted images fs C → CanBeHad (failed images fs) images layout C wants
  had C h = record {
    bytes = bytes;
    pass = h.pass;
    honest = h.honest;
    committed = λ t i checked. all_at (λ (t : Target). IsSome (C t.want)) (blocks images fs) t h.committed (block_of t i checked);
    slices = λ t i checked. all_at (λ (t : Target). IfSome (C t.want) (IsSlice (size_of t))) (blocks images fs) t h.slices (block_of t i checked);
  }

  -- the row of a block is the same by the list
  row_same : (C : Committed) (t : Target) → CanBeSpared images fs C t → HasRightPlace images C t
      ⊎ ((mirrors t.chunk ≡ None) × HasFewWrongAt images layout C (row_of (failed images fs) (targets layout wants) t.chunk t.at.row) t)
  row_same C t spared =
      subst (λ ts. HasRightPlace images C t ⊎ ((mirrors t.chunk ≡ None) × HasFewWrongAt images layout C (row_of (failed images fs) ts t.chunk t.at.row) t))
      (sym same) spared

  -- whatever stands in the ranges, each block that can be spared has its committed bytes still
  pub may_hold_anything : RangesMayHoldAnything images fs
  may_hold_anything C left h keeps =
      all_from (λ t. CanBeSpared images fs C t → StandsFor left C t) (blocks images fs) (λ t i spared.
      let b = of_block t i in
      block_outlives (failed images fs) images layout wants table own h.given lengths apart C (had C h) left t b.0 b.1 (row_same C t spared)
      (written left keeps))

  -- whatever stands in the ranges, each plain sector with copies has its fresh bytes still
  pub leave_fresh : RangesLeaveFresh images fs
  leave_fresh left given keeps =
      all_from (λ t. is_plain t.want ≡ true → IsSome (mirrors t.chunk) → fresh left (failed images fs) t ≡ fresh images (failed images fs) t)
      (sites images fs) (λ t i sector copies.
      fresh_outlives (failed images fs) images layout wants table own given lengths apart left t (subst (In t) (sym same) i) sector copies (written left keeps))

  -- each range lies in what is wrong
  pub lie_in_wrong : RangesLieInWrong images fs
  lie_in_wrong C h = all_from (IsWrongRange images fs C) (ranges images fs) (λ range i.
      of range (range_is_wrong (failed images fs) images layout C wants table own h.given lengths (had C h) apart range
      (subst (λ ws. In range (map (λ (w : Write). w.range) ws)) (sym (writes_beside images fs)) i)))
    where
      -- a range that lies in what is wrong by the wants does so by the rows, blocks and sites of the repair
      of : (range : Range) → IsWrong (failed images fs) images layout C wants table own h.given lengths (had C h) apart range → IsWrongRange images fs C range
      of range (inl (chunk, c, (row, i, wrong))) = inl (any_in (IsOfWrongParity images layout C range) (rows images fs) row
          (in_flat (rows_in (failed images fs) (sites images fs)) chunk row layout.chunks c
          (subst (λ ts. In row (rows_in (failed images fs) ts chunk)) same i)) wrong)
      of range (inr (inl (t, i, checked, wrong))) = inr (inl (any_in (IsOfWrongPlace images C range) (blocks images fs) t (block_of t i checked) wrong))
      of range (inr (inr (t, i, stale))) = inr (inr (any_in (IsOfStale images (failed images fs) range) (sites images fs) t (subst (In t) same i) stale))
