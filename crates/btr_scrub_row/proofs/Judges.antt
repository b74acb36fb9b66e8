-- What one more block adds to the new data, the counts and the columns.
use Rattle.std.proofs.Common.{◌≡◌, ℕ, zero, suc, ◌+◌, ◌*◌, ◌<◌, ◌≤◌, ◌==◌, ◌&&◌, ◌||◌, Bool, false, not, cond, List, [], ◌∷◌, ◌++◌, length, map, replicate}
use Rattle.std.proofs.Common.{take, get_or, nat_lt, slice_range, Option, Some, None, Ok, count_by, refl, sym, ap, ◌∙◌, subst, inl, inr, arith, true}
use Rattle.btr_scrub_row.proofs.Common.{AreJudged, FullStripe, HoldsRow, Images, IsOn, IsStripeOf, Judged, Layout, Row, Slice, Target, Want, element}
use Rattle.btr_scrub_row.proofs.Common.{element_count, element_in, filter, is_checked, is_sure, list_any, meets_piece, mending_writes, new_bytes, option_map_or}
use Rattle.btr_scrub_row.proofs.Common.{pasted, size_of, slice_count, sought}
use Rattle.std.specs.List.{fold, sum_by}
use Rattle.std.proofs.Math.Bool.{or-false}
use Rattle.std.proofs.lemmas.Bool.{cases_eq, eq-eqb, ne_eqb}
use Rattle.std.proofs.lemmas.List.{get_or-replicate, length-map}
use Rattle.std.proofs.lemmas.List.Elements.{filter-append}
use Rattle.std.proofs.lemmas.List.Folds.{list_any-append}
use Rattle.std.proofs.lemmas.List.Sums.{fold-append, sum_by_push}
use Rattle.btr_scrub_row.specs.Wanted.{is_lost_block, wrong_parts}
use Rattle.btr_scrub_row.specs.Rows.{meets, with_block}
use Rattle.btr_scrub_row.specs.Mending.{IsRowOf, is_at}
use Rattle.btr_scrub_row.specs.Judging.{FitsVerdict, CountsVerdict, IsIn}
use Rattle.btr_scrub_row.specs.declared.judging.Verdict.{Verdict}
use Rattle.btr_scrub_row.proofs.Shapes.{part_slice}
use Rattle.btr_scrub_row.proofs.Pasted.{element_other, front_range, range_around}

-- ---- one more block

-- one more counts where it passes
count_push : {X : Type 0} (p : X → Bool) (xs : List X) (x : X) → count_by p (xs ++ x ∷ []) ≡ count_by p xs + cond (p x) 1 0
count_push p xs x = sum_by_push (λ x. cond (p x) 1 0) xs x

-- one of one more passes where one did, or it does
any_one : {X : Type 0} (p : X → Bool) (xs : List X) (x : X) → list_any p (xs ++ x ∷ []) ≡ (list_any p xs || p x)
any_one p xs x = list_any-append p xs (x ∷ []) ∙ ap (λ b. list_any p xs || b) (or-false (p x))

module _ (images : Images) (layout : Layout) (row : Row) (ts : List Target) (t : Target) (old new : List ℕ) (judged judged' : Judged) (verdict : Verdict)
    (below : t.at.index < slice_count row) (inside : t.at.rest + size_of t ≤ 65536) (room : slice_count row * 65536 ≤ length old)
    (so_far : AreJudged images layout row ts old judged) (fits : FitsVerdict images layout row t old new verdict)
    (counts : CountsVerdict judged verdict judged') where
  -- the piece meets the columns that the block meets
  meets_same : (c : ℕ) → meets_piece c verdict.piece ≡ meets c t
  meets_same c = ap (λ r. nat_lt r (c * 4096 + 4096) && nat_lt (c * 4096) (r + verdict.piece.len)) fits.piece.rest
      ∙ ap (λ n. nat_lt t.at.rest (c * 4096 + 4096) && nat_lt (c * 4096) (t.at.rest + n)) fits.piece.len

  -- a slice with one more block
  slice_more : (accepted_long : (bytes : List ℕ) → new_bytes images row.failing t ≡ Some bytes → length bytes ≡ size_of t) (i : ℕ) → i < slice_count row
      → element_in new i ≡ fold (with_block images layout (new_bytes images row.failing)) (element images layout row (Slice i))
      (filter (λ t. t.at.index == i) (ts ++ t ∷ []))
  slice_more long i lt =
      let z = element images layout row (Slice i) in
      let f = with_block images layout (new_bytes images row.failing) in
      let p = λ (t : Target). t.at.index == i in
      let split : fold f z (filter p (ts ++ t ∷ [])) ≡ fold f (element_in old i) (filter p (t ∷ [])) =
      ap (fold f z) (filter-append p ts (t ∷ [])) ∙ fold-append f z (filter p ts) (filter p (t ∷ []))
      ∙ ap (λ x. fold f x (filter p (t ∷ []))) (sym (so_far.slices i lt)) in
      ap (λ xs. element_in xs i) fits.pasted_is ∙ by (new_bytes images row.failing t) refl ∙ sym split
    where
      by : (o : Option (List ℕ)) → new_bytes images row.failing t ≡ o → element_in (option_map_or (pasted old (t.at.index * 65536 + t.at.rest)) o old) i
          ≡ fold (with_block images layout (new_bytes images row.failing)) (element_in old i) (cond (t.at.index == i) (t ∷ []) [])
      by None e = same (t.at.index == i)
        where
          same : (b : Bool) → element_in old i ≡ fold (with_block images layout (new_bytes images row.failing)) (element_in old i) (cond b (t ∷ []) [])
          same true = rw e refl
          same false = refl
      by (Some bytes) e =
          let n = long bytes e in
          elim (cases_eq t.at.index i) [
            | inl same ↦ rw (eq-eqb t.at.index i same, e)
                (range_around old (t.at.index * 65536 + t.at.rest) bytes (omega (arith, n, below, inside, room)) (i * 65536) t.at.rest 65536
                (omega (arith, same)) (omega (arith, n, inside)) (omega (arith, lt, room)))
            | inr other ↦ rw (ne_eqb t.at.index i other)
                (element_other old t.at.index t.at.rest i bytes (omega (arith, n, below, inside, room)) (omega (arith, n, inside)) (λ s. other (sym s)))
          ]

  -- the blocks so far and one more were judged
  pub judged_more : ((bytes : List ℕ) → new_bytes images row.failing t ≡ Some bytes → length bytes ≡ size_of t)
      → AreJudged images layout row (ts ++ t ∷ []) new judged'
  judged_more long = record {
    slices = slice_more long;
    blocks = counts.blocks ∙ ap (λ n. n + cond verdict.checked 1 0) so_far.blocks ∙ ap (λ b. count_by is_checked ts + cond b 1 0) fits.checked
        ∙ sym (count_push is_checked ts t);
    bad = counts.bad ∙ ap (λ n. n + cond (not verdict.good) 1 0) so_far.bad
        ∙ ap (λ n. sum_by (λ t. length (wrong_parts images row.failing t)) ts + n) (sym fits.wrong)
        ∙ sym (sum_by_push (λ t. length (wrong_parts images row.failing t)) ts t);
    rebuilt = counts.rebuilt ∙ ap (λ n. n + cond (not verdict.good && verdict.given) 1 0) so_far.rebuilt
        ∙ ap (λ n. sum_by (λ t. length (mending_writes images row.failing t)) ts + n) (sym fits.mends)
        ∙ sym (sum_by_push (λ t. length (mending_writes images row.failing t)) ts t);
    lost = counts.lost ∙ ap (λ n. n + cond (verdict.checked && not verdict.given) 1 0) so_far.lost
        ∙ ap (λ b. count_by (is_lost_block images) ts + cond b 1 0) (sym fits.lost) ∙ sym (count_push (is_lost_block images) ts t);
    met = λ c lt. counts.met c lt ∙ ap (λ b. b || meets_piece c verdict.piece) (so_far.met c lt) ∙ ap (λ b. list_any (meets c) ts || b) (meets_same c)
        ∙ sym (any_one (meets c) ts t);
    broken = λ c lt. counts.broken c lt ∙ ap (λ b. b || (not verdict.sure && meets_piece c verdict.piece)) (so_far.broken c lt)
        ∙ ap (λ b. list_any (λ t. not (is_sure images layout row t) && meets c t) ts || (not b && meets_piece c verdict.piece)) fits.sure
        ∙ ap (λ b. list_any (λ t. not (is_sure images layout row t) && meets c t) ts || (not (is_sure images layout row t) && b)) (meets_same c)
        ∙ sym (any_one (λ t. not (is_sure images layout row t) && meets c t) ts t);
  }

-- ---- wants and blocks

-- the block of a want
pub record WantAt (layout : Layout) (blocks : List Target) (want : Want) (i : ℕ) : Type 0 where
  pub target : Target
  pub is_sought : sought layout want ≡ Ok target
  pub below : i < length blocks
  pub at : (d : Target) → get_or blocks i d ≡ target

-- each want of a row has a block of it, at the same number
pub want_at : (layout : Layout) (wants : List Want) (blocks : List Target) (i : ℕ) (w : Want) → map (sought layout) wants ≡ map is_at blocks
    → i < length wants → WantAt layout blocks (get_or wants i w) i
want_at layout [] blocks i w e lt = absurd (omega (arith, lt))
want_at layout (x ∷ wants) [] i w e lt = cc
want_at layout (x ∷ wants) (t ∷ blocks) zero w e lt =
    let head : sought layout x ≡ Ok t = cc in
    record { target = t; is_sought = head; below = omega arith; at = λ d. refl }
want_at layout (x ∷ wants) (t ∷ blocks) (suc i) w e lt =
    let tail : map (sought layout) wants ≡ map is_at blocks = cc in
    let r = want_at layout wants blocks i w tail (omega (arith, lt)) in
    record { target = r.target; is_sought = r.is_sought; below = omega (arith, r.below); at = r.at }

-- there are as many blocks as wants
pub same_count : (layout : Layout) (wants : List Want) (blocks : List Target) → map (sought layout) wants ≡ map is_at blocks → length blocks ≡ length wants
same_count layout wants blocks e = sym (length-map blocks is_at) ∙ sym (ap length e) ∙ length-map wants (sought layout)

-- a want of a row lies in it
pub in_row : (layout : Layout) (stripe : FullStripe) (wants : List Want) (row : Row) (i : ℕ) (w : Want) → IsStripeOf layout stripe row
    → IsRowOf layout stripe.chunk stripe.number wants row → i < length wants → IsIn layout stripe (get_or wants i w)
in_row layout stripe wants row i w of is lt =
    let r = want_at layout wants row.blocks i w is.blocks lt in
    record { target = r.target; is_sought = r.is_sought; row = row; of = of; on = subst (IsOn row) (r.at r.target) (is.lie i r.target r.below) }

-- what was copied
same_front : (xs ys : List ℕ) (n a b : ℕ) → take n xs ≡ slice_range ys 0 (0 + n) → a ≤ b → b ≤ n → slice_range xs a b ≡ slice_range ys a b
same_front xs ys n a b e le most =
    let cut : slice_range ys 0 (0 + n) ≡ take n ys = ap (λ m. take m ys) (omega arith) in
    sym (front_range xs n a b le most) ∙ ap (λ zs. slice_range zs a b) (e ∙ cut) ∙ front_range ys n a b le most

-- before the first block, the new data are the slices that were read, and nothing is counted
pub judged_none : (images : Images) (layout : Layout) (row : Row) (old new : List ℕ) → HoldsRow images layout row old
    → slice_count row ≤ element_count row → (n : ℕ) → slice_count row * 65536 ≤ n → take n new ≡ slice_range old 0 (0 + n)
    → (judged : Judged) → judged.blocks ≡ 0 → judged.bad ≡ 0 → judged.rebuilt ≡ 0 → judged.lost ≡ 0 → ((c : ℕ) → c < 16 → get_or judged.met c false ≡ false)
    → ((c : ℕ) → c < 16 → get_or judged.broken c false ≡ false)
    → AreJudged images layout row [] new judged
judged_none images layout row old new holds most n room e judged blocks bad rebuilt lost met broken = record {
  slices = λ i lt.
      same_front new old n (i * 65536) (i * 65536 + 65536) e (omega arith) (omega (arith, lt, room))
      ∙ holds.elements i (omega (arith, lt, most)) ∙ ap (element images layout row) (part_slice (slice_count row) i lt);
  blocks = blocks;
  bad = bad;
  rebuilt = rebuilt;
  lost = lost;
  met = met;
  broken = broken;
}

-- none of sixteen
pub none_of_sixteen : (c : ℕ) → c < 16 → get_or (replicate 16 false) c false ≡ false
none_of_sixteen c lt = get_or-replicate 16 c false false lt
