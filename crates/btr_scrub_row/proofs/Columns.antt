-- The sectors of a parity, column by column.
use Rattle.std.proofs.Common.{◌≡◌, ℕ, ◌+◌, ◌*◌, ◌<◌, ◌≤◌, ◌&&◌, ◌||◌, Bool, true, false, not, cond, List, [], ◌∷◌, length, take, get_or, slice_range, Option}
use Rattle.std.proofs.Common.{Some, None, IsSome, count_by, refl, sym, ap, ◌∙◌, subst, arith}
use Rattle.btr_scrub_row.proofs.Common.{CanWrite, CanWriteIn, FullStripe, HasPart, Images, IsOfRow, IsStripeOf, Layout, Part, Range, Row, Seen, Target, Write}
use Rattle.btr_scrub_row.proofs.Common.{bytes_eq, column_writes, common_steps, differs, element, element_in, filter, flat_map, is_decided, is_sure, list_any}
use Rattle.btr_scrub_row.proofs.Common.{new_bytes, parity_writes, range-range, range_in, range_in_element, range_with_len, told_writes}
use Rattle.std.specs.List.{cons_option, filter_map, list_all}
use Rattle.std.proofs.lemmas.List.Sums.{length-filter}
use Rattle.std.specs.Option.{option_map}
use Rattle.std.proofs.lemmas.List.FromFn.{get_or-range_with_len}
use Rattle.btr_scrub_row.specs.Rows.{column_of, element_with, meets, sector_write}
use Rattle.btr_scrub_row.specs.Writing.{write_at, is_wrong}
use Rattle.btr_scrub_row.proofs.Elements.{IsElement, Lies, can_write_in, is_at, its_element, lies, lies_at, lies_in_row}
use Rattle.btr_scrub_row.proofs.Pasted.{front_range, length-range}
use Rattle.btr_read.proofs.Ones.{in_below}
use Rattle.btr_read.proofs.Order.{of_filter}
use Rattle.btr_scrub_copies.proofs.Lists.{length-filter_map}
use Rattle.btr_scrub_row.proofs.Settled.{written_at}

-- ---- decided columns

-- all that meets a column is so
none_else : (column : ℕ) (sure : Target → Bool) (ts : List Target) → not (list_any (λ t. not (sure t) && meets column t) ts)
    ≡ list_all (λ t. not (meets column t) || sure t) ts
none_else column sure [] = refl
none_else column sure (t ∷ ts) = grind (arith, common_steps, none_else column sure ts)

-- a column is decided where it meets a block, and none that isn't sure
pub decided_is : (images : Images) (layout : Layout) (row : Row) (column : ℕ) (met broken : Bool) → met ≡ list_any (meets column) row.blocks → broken
    ≡ list_any (λ t. not (is_sure images layout row t) && meets column t) row.blocks → (met && not broken) ≡ is_decided images layout row column
decided_is images layout row column met broken e h =
    ap (λ b. b && not broken) e ∙ ap (λ b. list_any (meets column) row.blocks && not b) h
    ∙ ap (λ b. list_any (meets column) row.blocks && b) (none_else column (is_sure images layout row) row.blocks)

-- whether a column differs, as it is compared in memory
pub differs_is : (images : Images) (layout : Layout) (row : Row) (part : Part) (column e start : ℕ) (old sums : List ℕ) → column < 16 → start
    ≡ e * 65536 + column * 4096 → element_in old e ≡ element images layout row part
    → take 65536 sums ≡ element_with images layout (new_bytes images row.failing) row part
    → not (bytes_eq (slice_range old start (start + 4096)) (slice_range sums (column * 4096) (column * 4096 + 4096))) ≡ differs images layout row part column
differs_is images layout row part column e start old sums lt at is new =
    let one : slice_range old start (start + 4096) ≡ column_of column (element images layout row part) =
    ap (λ s. slice_range old s (s + 4096)) at ∙ ap (slice_range old (e * 65536 + column * 4096)) (omega arith)
    ∙ sym (range-range old (e * 65536) 65536 (column * 4096) (column * 4096 + 4096) (omega arith) (omega (arith, lt))) ∙ ap (column_of column) is in
    let two : slice_range sums (column * 4096) (column * 4096 + 4096) ≡ column_of column (element_with images layout (new_bytes images row.failing) row part) =
    sym (front_range sums 65536 (column * 4096) (column * 4096 + 4096) (omega arith) (omega (arith, lt))) ∙ ap (column_of column) new in
    ap (λ x. not (bytes_eq x (slice_range sums (column * 4096) (column * 4096 + 4096)))) one
    ∙ ap (λ y. not (bytes_eq (column_of column (element images layout row part)) y)) two

-- ---- the writes of a parity, column by column

-- the writes that may be there, for each that passes, one after another
flat_filter : (f : ℕ → Option Write) (p : ℕ → Bool) (xs : List ℕ) → flat_map (λ x. cond (p x) (cons_option (f x) []) []) xs ≡ filter_map f (filter p xs)
flat_filter f p [] = refl
flat_filter f p (x ∷ xs) = grind (arith, common_steps, flat_filter f p xs)

-- the writes of the columns that are told are all that mend the parity
pub columns_told : (layout : Layout) (row : Row) (part : Part) (told : Option Images)
    → told_writes (λ images. flat_map (column_writes layout row part images) (range_with_len 0 16)) told
    ≡ told_writes (λ images. parity_writes images layout row part) told
columns_told layout row part None = refl
columns_told layout row part (Some images) = flat_filter (sector_write images layout row part) (is_wrong images layout row part) (range_with_len 0 16)

-- the number of the i-th
pub column_at : (i d : ℕ) → i < 16 → get_or (range_with_len 0 16) i d ≡ i
column_at i d lt = get_or-range_with_len 0 16 i d lt ∙ omega arith

module _ (layout : Layout) (stripe : FullStripe) (row : Row) (of : IsStripeOf layout stripe row) (part : Part)
    (has : HasPart row.chunk.profile (length row.chunk.stripes) part) where
  el : IsElement layout row part
  el = its_element of part has

  l : Lies layout row part
  l = lies el

  -- the sector of a column lies in the element, and gets that of the new data
  sector_at : (images : Images) (column : ℕ) → column < 16 → sector_write images layout row part column
      ≡ Some (written_at (range_in l.slot (l.off + column * 4096) 4096) (column_of column (element_with images layout (new_bytes images row.failing) row part)))
  sector_at images column lt = ap (option_map (λ (range : Range). written_at range
      (column_of column (element_with images layout (new_bytes images row.failing) row part))))
      (lies_at el l (column * 4096) 4096 (omega (arith, lt)) (omega (arith, lt)))

  -- as many columns are wrong as sectors of the parity are written
  pub counted_all : (images : Images) → count_by (is_wrong images layout row part) (range_with_len 0 16) ≡ length (parity_writes images layout row part)
  counted_all images =
      let wrong = is_wrong images layout row part in
      let columns = range_with_len 0 16 in
      sym (length-filter_map (sector_write images layout row part) (filter wrong columns) (λ column i.
      let lt = in_below 16 column (of_filter wrong column columns i) in
      subst IsSome (sym (sector_at images column lt)) refl) ∙ length-filter wrong columns)

  module _ (element : Range) (is : range_in_element layout row part 0 65536 ≡ Some element) (column : ℕ) (lt : column < 16) where
    -- the sector can be written there
    pub written : {rack : Seen} {marks : List Bool} → CanWrite layout rack marks → CanWriteIn element (column * 4096) 4096 rack marks
    written can = can_write_in el l element is (column * 4096) 4096 (omega (arith, lt)) can

    -- the sector is a range of the row
    pub in_the_row : (n : ℕ) → n ≡ 4096 → IsOfRow layout row (range_in element.slot (element.off + column * 4096) n)
    in_the_row n long = lies_in_row el l element is (column * 4096) n (omega (arith, long, lt))

    -- one write, where the parity is wrong
    pub writes_sector : (images : Images) (sums : List ℕ) → 65536 ≤ length sums → take 65536 sums
        ≡ element_with images layout (new_bytes images row.failing) row part
        → is_wrong images layout row part column ≡ true
        → write_at element.slot (element.off + column * 4096) (slice_range sums (column * 4096) (column * 4096 + 4096)) ∷ []
        ≡ column_writes layout row part images column
    writes_sector images sums room new wrong =
        let a = is_at el l element is in
        let bytes = slice_range sums (column * 4096) (column * 4096 + 4096) in
        let long : length bytes ≡ 4096 = length-range sums (column * 4096) 4096 (omega (arith, room, lt)) in
        let same : bytes ≡ column_of column (element_with images layout (new_bytes images row.failing) row part) =
        sym (front_range sums 65536 (column * 4096) (column * 4096 + 4096) (omega arith) (omega (arith, lt))) ∙ ap (column_of column) new in
        ap (λ s. write_at s (element.off + column * 4096) bytes ∷ []) a.slot
        ∙ ap (λ o. write_at l.slot (o + column * 4096) bytes ∷ []) a.off
        ∙ ap (λ n. written_at (range_in l.slot (l.off + column * 4096) n) bytes ∷ []) long
        ∙ ap (λ bs. written_at (range_in l.slot (l.off + column * 4096) 4096) bs ∷ []) same
        ∙ sym (ap (λ b. cond b (cons_option (sector_write images layout row part column) []) []) wrong
        ∙ ap (λ o. cons_option o []) (sector_at images column lt))

-- and none where it isn't
pub writes_none : (images : Images) (layout : Layout) (row : Row) (part : Part) (column : ℕ)
    → is_wrong images layout row part column ≡ false → [] ≡ column_writes layout row part images column
writes_none images layout row part column right = sym (ap (λ b. cond b (cons_option (sector_write images layout row part column) []) []) right)
