-- What is known of the parities of a row that was judged.
use Rattle.std.proofs.Common.{◌≡◌, ℕ, ◌<◌, List, false, length, map, take, get_or, sym, ap, ◌∙◌, arith}
use Rattle.btr_scrub_row.proofs.Common.{AreJudged, FullStripe, HasParity, HoldsRow, Images, IsStripeOf, Judged, Layout, Parity, Raid6, Row, element, element_in}
use Rattle.btr_scrub_row.proofs.Common.{element_of, new_bytes, parity_p, parity_q, part_of, range_with_len, slice_count}
use Rattle.std.proofs.lemmas.List.{same_lists}
use Rattle.std.proofs.lemmas.List.FromFn.{get_or-map-range_with_len, length-map-range_with_len}
use Rattle.btr_scrub_row.specs.Rows.{slice_with, slices_with, element_with}
use Rattle.btr_scrub_row.specs.Writing.{KnowsParity}
use Rattle.btr_read.specs.declared.parity.Parity.TheVariants as parity
use Rattle.btr_scrub_row.proofs.Columns.{decided_is}
use Rattle.btr_scrub_row.proofs.Shapes.{parity_at}

module _ (images : Images) (layout : Layout) (stripe : FullStripe) (row : Row) (of : IsStripeOf layout stripe row) (old new : List ℕ) (judged : Judged)
    (holds : HoldsRow images layout row old) (are : AreJudged images layout row row.blocks new judged) where
  -- the new data
  slices_are : map (element_in new) (range_with_len 0 stripe.shape.slices) ≡ slices_with images layout (new_bytes images row.failing) row
  slices_are =
      let f = element_in new in
      let g = slice_with images layout (new_bytes images row.failing) row in
      let long : length (map f (range_with_len 0 stripe.shape.slices)) ≡ length (map g (range_with_len 0 (slice_count row))) =
      length-map-range_with_len f 0 stripe.shape.slices ∙ of.shape.slices ∙ sym (length-map-range_with_len g 0 (slice_count row)) in
      same_lists (map f (range_with_len 0 stripe.shape.slices)) (map g (range_with_len 0 (slice_count row))) long (λ i d lt.
      let below : i < stripe.shape.slices = omega (arith, lt, length-map-range_with_len f 0 stripe.shape.slices) in
      let below' : i < slice_count row = omega (arith, below, of.shape.slices) in
      get_or-map-range_with_len f 0 stripe.shape.slices i i d below (omega arith) ∙ are.slices i below'
      ∙ sym (get_or-map-range_with_len g 0 (slice_count row) i i d below' (omega arith)))

  -- a parity as it was read, that of the new data, and the decided columns are known
  knows : (p : Parity) → HasParity row.chunk.profile p → (sums : List ℕ)
      → take 65536 sums ≡ element_with images layout (new_bytes images row.failing) row (part_of p) → KnowsParity images layout row p judged old sums
  knows p has sums e =
      let at = parity_at row of.is.parity of.keeps_rule p has in
      record {
        old_is = holds.elements (element_of p (slice_count row)) at.0 ∙ ap (element images layout row) at.1;
        new_is = e;
        decided = λ column lt. decided_is images layout row column (get_or judged.met column false) (get_or judged.broken column false)
            (are.met column lt) (are.broken column lt);
      }

  -- P's
  pub knows_p : (sums : List ℕ) → take 65536 sums ≡ parity_p 65536 (map (element_in new) (range_with_len 0 stripe.shape.slices))
      → KnowsParity images layout row parity.P judged old sums
  knows_p sums e = knows parity.P tt sums (e ∙ ap (parity_p 65536) slices_are)

  -- so are Q's, in RAID6
  pub knows_q : (sums : List ℕ) → row.chunk.profile ≡ Raid6 → take 65536 sums
      ≡ parity_q 65536 (map (element_in new) (range_with_len 0 stripe.shape.slices)) → KnowsParity images layout row parity.Q judged old sums
  knows_q sums six e = knows parity.Q six sums (e ∙ ap (parity_q 65536) slices_are)
