-- Whatever failed, nothing changes but the ranges of the writes.
use Rattle.std.proofs.Common.{◌≡◌, ℕ, zero, suc, Bool, true, false, List, [], ◌∷◌, ◌++◌, map, All, Result, Ok, Err, refl, sym, ◌∙◌, ap, subst, inl, inr, arith}
use Rattle.btr_scrub.proofs.Common.{Images, KeepsOutside, MendFault, Range, Write, chunk_writes_for, list_any, listed_writes_for, or_parts, same_Some, write_on}
use Rattle.btr_scrub.proofs.Common.{writes_if}
use Rattle.std.specs.List.{fold}
use Rattle.btr_scrub_copies.specs.Writes.{IsStopped, IsTorn, LeaveImages}
use Rattle.btr_scrub.specs.Repair.{covers}
use Rattle.btr_scrub.specs.Whole.{WorksKeepTheRest, listed_failing}
use Rattle.btr_scrub.proofs.AcrossChunks.{chunk_short}
use Rattle.btr_scrub.proofs.Lists.{at_in}
use Rattle.std.proofs.lemmas.Bool.{or_from}
use Rattle.btr_scrub.proofs.Pasting.{Short, one_short, shorts_keep, shorts_keep_if, flat_short}
use Rattle.std.proofs.lemmas.List.Folds.{list_any-append}
use Rattle.std.proofs.lemmas.List.{map-append}

-- the first of writes that fit do
pub left_short : (images : Images) (xs ys : List Write) → All (Short images) (xs ++ ys) → All (Short images) xs
left_short images [] ys all i d below = absurd (omega (arith, below))
left_short images (x ∷ xs) ys all zero d below = all 0 d (omega arith)
left_short images (x ∷ xs) ys all (suc i) d below = left_short images xs ys (λ j e lt. all (suc j) e (omega (arith, lt))) i d (omega (arith, below))

-- so do the last
pub right_short : (images : Images) (xs ys : List Write) → All (Short images) (xs ++ ys) → All (Short images) ys
right_short images [] ys all = all
right_short images (x ∷ xs) ys all = right_short images xs ys (λ j e lt. all (suc j) e (omega (arith, lt)))

-- the ranges of some writes
abbrev ranges : List Write → List Range
ranges ws = map (λ (w : Write). w.range) ws

-- a byte that no write of two lists covers is covered by none of either
none_of_append : (slot off : ℕ) (xs ys : List Write) → list_any (covers slot off) (ranges (xs ++ ys)) ≡ false
    → (list_any (covers slot off) (ranges xs) ≡ false) × (list_any (covers slot off) (ranges ys) ≡ false)
none_of_append slot off xs ys e = or_parts (list_any (covers slot off) (ranges xs)) (list_any (covers slot off) (ranges ys))
    (sym (list_any-append (covers slot off) (ranges xs) (ranges ys)) ∙ ap (list_any (covers slot off)) (sym (map-append (λ (w : Write). w.range) xs ys)) ∙ e)

-- writes up to one that is done in part change nothing outside the ranges of all
torn_keeps : (images left : Images) (before behind : List Write) → All (Short images) (before ++ behind)
    → IsTorn behind (fold write_on images before) left → KeepsOutside (ranges (before ++ behind)) images left
torn_keeps images left before [] all t = absurd t
torn_keeps images left before (w ∷ behind) all t =
    let done = shorts_keep images before (left_short images before (w ∷ behind) all) in
    let f = right_short images before (w ∷ behind) all 0 w (omega arith) in
    let now = fold write_on images before in
    let one = subst (KeepsOutside (w.range ∷ []) now) (sym t.2) (one_short now w.range t.0 (omega (arith, t.1, f.short))
    (omega (arith, f.within, done.lengths w.range.slot))) in
    record {
      count = one.count ∙ done.count;
      lengths = λ slot. one.lengths slot ∙ done.lengths slot;
      bytes = λ slot off e.
          let apart = none_of_append slot off before (w ∷ behind) e in
          one.bytes slot off (or_from (covers slot off w.range) false
          (or_parts (covers slot off w.range) (list_any (covers slot off) (ranges behind)) apart.1).0 refl) ∙ done.bytes slot off apart.0;
    }

-- writes that fit, or a first part of them, change nothing outside their ranges
pub stopped_keeps : (images left : Images) (ws : List Write) → All (Short images) ws → IsStopped ws images left → KeepsOutside (ranges ws) images left
stopped_keeps images left ws all s =
    let shorts = subst (All (Short images)) s.place all in
    subst (λ vs. KeepsOutside (ranges vs) images left) (sym s.place) (elim s.stands [
      | inl same ↦
          let done = shorts_keep images s.before (left_short images s.before s.behind shorts) in
          subst (KeepsOutside (ranges (s.before ++ s.behind)) images) (sym same)
          (record { count = done.count; lengths = done.lengths; bytes = λ slot off e. done.bytes slot off (none_of_append slot off s.before s.behind e).0 })
      | inr part ↦ torn_keeps images left s.before s.behind shorts part
    ])

-- the same where it may not be written at all
pub stopped_if : (write : Bool) (images left : Images) (ws : List Write) → All (Short images) ws → IsStopped (writes_if write ws) images left
    → KeepsOutside (ranges ws) images left
stopped_if true images left ws all s = stopped_keeps images left ws all s
stopped_if false images left ws all s =
    let none = stopped_keeps images left [] (λ i d below. absurd (omega (arith, below))) s in
    record { count = none.count; lengths = none.lengths; bytes = λ slot off e. none.bytes slot off refl }

-- whatever failed, all that lies outside the ranges of the writes for a list of blocks is as before
pub works_keep_the_rest : WorksKeepTheRest
works_keep_the_rest layout write wants count old new t u result images left table own given lengths held is h = by result h.does.held
  where
    -- each write has at most as many bytes as its range, which lies in its image
    shorts : All (Short images) (listed_writes_for layout wants images)
    shorts = flat_short images (λ c. chunk_writes_for (listed_failing layout wants images) layout c wants images) layout.chunks
        (λ c i. let j = at_in c layout.chunks i in chunk_short (listed_failing layout wants images) layout table own given j.0 c j.1 wants images lengths)

    by : (r : Result (Unit {0}) MendFault) → LeaveImages (λ images. writes_if write (listed_writes_for layout wants images)) old.held new.held r
        → KeepsOutside (ranges (listed_writes_for layout wants images)) images left
    by (Ok x) l =
        subst (KeepsOutside (ranges (listed_writes_for layout wants images)) images)
        (same_Some (fold write_on images (writes_if write (listed_writes_for layout wants images))) left (sym (rw held at l) ∙ is))
        (shorts_keep_if write images (listed_writes_for layout wants images) shorts)
    by (Err e) l =
        stopped_if write images left (listed_writes_for layout wants images) shorts (rw is at (rw held at l))
