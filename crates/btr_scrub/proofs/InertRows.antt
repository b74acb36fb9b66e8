-- A full stripe that holds nothing but plain sectors, in a chunk no image of which is in doubt: nothing is written there, and nothing counted.
use Rattle.std.proofs.Common.{◌≡◌, ℕ, Bool, true, false, not, cond, ◌&&◌, ◌||◌, List, [], ◌∷◌, length, map, None, IsNone, Ok, refl, sym, ap, ◌∙◌, subst, inl}
use Rattle.std.proofs.Common.{inr, arith}
use Rattle.btr_scrub.proofs.Common.{Images, In, IsSought, IsTable, Layout, Part, Row, Target, Want, all_at, filter_map, has_doubtful, is_checked, is_lost_block}
use Rattle.btr_scrub.proofs.Common.{is_on_behind, is_plain, list_any, mended_row, mending_writes, mirrors, new_bytes, parities, parity_writes, place_at}
use Rattle.btr_scrub.proofs.Common.{range_with_len, row_writes, sought, stale_parts, sum_by, untouched, wrong_parts}
use Rattle.std.specs.List.{list_all}
use Rattle.btr_chunk.specs.declared.place.Part.TheVariants.{Slice}
use Rattle.btr_chunk.specs.declared.stripe.Stripe.{Stripe}
use Rattle.btr_scrub_copies.specs.Fresh.{is_behind, is_doubtful}
use Rattle.btr_scrub_copies.proofs.Freshness.{none_stale}
use Rattle.btr_scrub_row.specs.Mending.{IsOn, IsRowOf, is_at}
use Rattle.btr_scrub_row.specs.Rows.{differs, is_decided, is_sure, meets, sector_write}
use Rattle.btr_scrub_row.proofs.Settled.{mending_is, own as own_are}
use Rattle.btr_scrub.specs.Rowing.{IsInert}
use Rattle.btr_scrub.proofs.Lists.{flat_none}
use Rattle.btr_scrub.proofs.Positions.{is_sought, on_stripe, position_is}
use Rattle.btr_scrub.proofs.Sums.{sum_zero}
use Rattle.btr_chunk.proofs.Searches.{fails-list_any}
use Rattle.btr_scrub.proofs.Inert.{sure_device}
use Rattle.std.proofs.Math.Bool.{or-false}
use Rattle.btr_scrub.proofs.Grouping.{filter_none}

-- ---- lists

-- a column in which nothing is sure isn't decided
none_decided : (meets sure : Target → Bool) (ts : List Target) → ((t : Target) → In t ts → sure t ≡ false)
    → (list_any meets ts && list_all (λ t. not (meets t) || sure t) ts) ≡ false
none_decided meets sure [] h = refl
none_decided meets sure (t ∷ ts) h = grind (arith, h t (inl refl), none_decided meets sure ts (λ u i. h u (inr i)))

-- each block of a row is one of its wants, and has a position
pub sought_of_row : (layout : Layout) (wants : List Want) (ts : List Target) → map (sought layout) wants ≡ map is_at ts → (t : Target) → In t ts
    → (w : Want) × In w wants × (sought layout w ≡ Ok t)
sought_of_row layout wants [] e t i = absurd i
sought_of_row layout [] (u ∷ ts) e t i = cc
sought_of_row layout (w ∷ ws) (u ∷ ts) e t (inl same) =
    let head : sought layout w ≡ Ok u = cc in
    (w, inl refl, head ∙ ap is_at same)
sought_of_row layout (w ∷ ws) (u ∷ ts) e t (inr i) =
    let tail : map (sought layout) ws ≡ map is_at ts = cc in
    let r = sought_of_row layout ws ts tail t i in
    (r.0, inr r.1, r.2)

-- so it lies in the row's chunk
pub sought_in_row : (layout : Layout) (start number : ℕ) (wants : List Want) (row : Row) → IsRowOf layout start number wants row
    → (t : Target) → In t row.blocks → IsSought layout t × (t.chunk ≡ row.chunk)
sought_in_row layout start number wants row of t i =
    let w = sought_of_row layout wants row.blocks of.blocks t i in
    let on = all_at (IsOn row) row.blocks t of.lie i in
    (is_sought layout w.0 t w.2, on.chunk)

module _ (layout : Layout) (table : IsTable layout.chunks) (row : Row) (lie : (t : Target) → In t row.blocks → IsSought layout t × (t.chunk ≡ row.chunk))
    (parity : mirrors row.chunk ≡ None) (inert : IsInert layout row) where
  -- ---- one sector

  module _ (t : Target) (i : In t row.blocks) where
    -- the block is a sector without a checksum
    plain : is_plain t.want ≡ true
    plain = all_at (λ t. is_plain t.want ≡ true) row.blocks t inert.plain i

    -- its chunk has no copies
    none : mirrors t.chunk ≡ None
    none = ap mirrors (lie t i).1 ∙ parity

    -- its image isn't behind
    not_behind : is_on_behind row.failing t (Slice t.at.index) ≡ false
    not_behind =
        let is = (lie t i).0 in
        let at = on_stripe layout t (Slice t.at.index) table is (subst IsNone (sym none) refl, (position_is layout t table is).index) in
        let sure : has_doubtful layout.devices row.failing t.chunk ≡ false = ap (has_doubtful layout.devices row.failing) (lie t i).1 ∙ inert.sure in
        ap (λ ds. is_behind ds row.failing (place_at t.chunk (Slice t.at.index) t.at).devid) is.devices
        ∙ ap (is_behind layout.devices row.failing) at.devid
        ∙ sure_device row.failing layout.devices at.stripe.devid
        (fails-list_any (λ (stripe : Stripe). is_doubtful layout.devices row.failing stripe.devid) t.chunk.stripes sure at.number at.stripe at.there)

    module _ (images : Images) where
      -- so its place isn't stale
      unstale : stale_parts images row.failing t ≡ []
      unstale = none_stale images row.failing t
          (ap (list_any (is_on_behind row.failing t)) (own_are images t none) ∙ or-false (is_on_behind row.failing t (Slice t.at.index)) ∙ not_behind)

      -- nor is it wrong
      none_wrong : wrong_parts images row.failing t ≡ []
      none_wrong = rw (plain, unstale)

      -- it gets no bytes
      none_given : new_bytes images row.failing t ≡ None
      none_given = rw (plain, unstale)

      -- nothing is written for it
      none_written : mending_writes images row.failing t ≡ []
      none_written = mending_is images row t ∙ rw none_given

      -- it isn't sure what it should have
      unsure : is_sure images layout row t ≡ false
      unsure = rw (none_given, plain, inert.sure)

  -- ---- the row

  module _ (images : Images) where
    -- so no column is decided, and nothing is written of a parity
    none_parity : (q : Part) → parity_writes images layout row q ≡ []
    none_parity q = ap (filter_map (sector_write images layout row q))
        (filter_none (λ column. is_decided images layout row column && differs images layout row q column) (range_with_len 0 16)
        (λ column i. ap (λ b. b && differs images layout row q column)
        (none_decided (meets column) (is_sure images layout row) row.blocks (λ t i. unsure t i images))))

    -- nothing is written in it
    pub inert_writes : row_writes images layout row ≡ []
    inert_writes = rw (
      flat_none (mending_writes images row.failing) row.blocks (λ t i. none_written t i images),
      flat_none (parity_writes images layout row) (parities row.chunk.profile) (λ q i. none_parity q),
    )

    -- nothing is counted for it
    pub inert_counts : (write : Bool) → mended_row images layout row write ≡ untouched
    inert_counts write =
        let blocks = sum_zero (λ t. cond (is_checked t) 1 0) row.blocks (λ t i. rw (plain t i)) in
        let bad = sum_zero (λ t. length (wrong_parts images row.failing t)) row.blocks (λ t i. ap length (none_wrong t i images)) in
        let repaired = sum_zero (λ t. length (mending_writes images row.failing t)) row.blocks (λ t i. ap length (none_written t i images)) in
        let lost = sum_zero (λ t. cond (is_lost_block images t) 1 0) row.blocks (λ t i. rw (plain t i)) in
        let parity = sum_zero (λ q. length (parity_writes images layout row q)) (parities row.chunk.profile) (λ q i. ap length (none_parity q)) in
        let none : cond write (sum_by (λ t. length (mending_writes images row.failing t)) row.blocks) 0 ≡ 0 = grind (arith, repaired) in
        λ i. record { blocks = blocks i; bad = bad i; repaired = none i; lost = lost i; parity = parity i }
