-- Maps of references are in order, and those with the same look-ups are the same.
use Rattle.std.proofs.Common.{◌≡◌, ℕ, ◌+◌, Bool, true, false, cond, ◌||◌, List, [], ◌∷◌, ◌++◌, ◌&&◌, T, Some, refl, sym, ap, ◌∙◌, subst, arith}
use Rattle.std.proofs.lemmas.List.Folds.{list_any-append}
use Rattle.std.proofs.lemmas.List.Sums.{fold-append, sum_by-append, sum_by-cons}
use Rattle.std.proofs.lemmas.Map.Keys.{sorted_head, sorted_tail}
use Rattle.std.specs.BTreeMap.{insert_entry}
use Rattle.std.specs.FinMap.Entries.{below_all, find, is_sorted, is_sorted-put, put, same_entries}
use Rattle.std.specs.List.{AllByRecursion}
use Rattle.std.specs.List.Sorted.{IsStrictlySortedBy}
use Rattle.std.specs.Map.{keys_of}
use Rattle.std.specs.Ordering.{is_lt}
use Rattle.std.specs.declared.cmp.Ordering.{Ordering}
use Rattle.std.specs.declared.cmp.Ordering.TheVariants.{Less, Equal, Greater}
use Rattle.btr_refs.proofs.Counting.{counts_law, found-more, ref_exact, ref_total}
use Rattle.btr_refs.specs.Counts.{HasCounts, RefCounts, count_in, counted, counted_all, found_at, is_met, sum_of}
use Rattle.btr_refs.specs.declared.counted.Counted.{Counted}
use Rattle.btr_refs.specs.Listed.{IsOrdered}
use Rattle.btr_refs.specs.RefKey.{ref_cmp, same_ref}
use Rattle.btr_refs.specs.declared.ref_key.RefKey.{RefKey}

both : (a b : Bool) → T a → T b → T (a && b)
both true b p q = q
both false b p q = absurd p

-- a reference that compares as less with all of a map's is below all of them
below : (key : RefKey) (counts : RefCounts) → AllByRecursion (λ y. ref_cmp key y ≡ Less) (keys_of counts) → T (below_all ref_cmp key counts)
below key [] all = tt
below key (entry ∷ counts) all =
    both (is_lt (ref_cmp key entry.0)) (below_all ref_cmp key counts) (subst (λ r. T (is_lt r)) (sym all.0) tt) (below key counts all.1)

-- a map whose references ascend, each once, is in order
pub is_ordered : (counts : RefCounts) → IsStrictlySortedBy ref_cmp (keys_of counts) → IsOrdered counts
is_ordered [] sorted = tt
is_ordered (entry ∷ counts) sorted = both (below_all ref_cmp entry.0 counts) (is_sorted ref_cmp counts)
    (below entry.0 counts (sorted_head ref_cmp entry.0 (keys_of counts) sorted)) (is_ordered counts (sorted_tail ref_cmp entry.0 (keys_of counts) sorted))

-- putting an entry into a map is the same by either of its names
same_put : (counts : RefCounts) (key : RefKey) (count : ℕ) → put ref_cmp key count counts ≡ insert_entry ref_cmp counts key count
same_put [] key count = refl
same_put (entry ∷ counts) key count = by (ref_cmp key entry.0) refl (same_put counts key count)
  where
    by : (r : Ordering) → ref_cmp key entry.0 ≡ r → put ref_cmp key count counts ≡ insert_entry ref_cmp counts key count
        → put ref_cmp key count (entry ∷ counts) ≡ insert_entry ref_cmp (entry ∷ counts) key count
    by Less is rest = cc
    by Equal is rest = cc
    by Greater is rest = cc

-- a map in order stays so, whatever references are counted
pub ordered_more : (counts : RefCounts) (refs : List Counted) → IsOrdered counts → IsOrdered (counted_all counts refs)
ordered_more counts [] ordered = ordered
ordered_more counts (one ∷ refs) ordered =
    let sum = count_in counts one.key + one.count in
    ordered_more (counted counts one) refs (subst IsOrdered (same_put counts one.key sum) (is_sorted-put ref_cmp ref_total one.key sum counts ordered))

-- looking a reference up in a map is the same by either of its names
same_find : (counts : RefCounts) (one : RefKey) → find ref_cmp one counts ≡ found_at counts one
same_find [] one = refl
same_find (entry ∷ counts) one = ap (λ o. cond (same_ref one entry.0) (Some entry.1) o) (same_find counts one)

-- maps in order in which each reference has the same count, or none, are the same
pub same_map : (a b : RefCounts) → IsOrdered a → IsOrdered b → ((one : RefKey) → found_at a one ≡ found_at b one) → a ≡ b
same_map a b in_a in_b same = same_entries ref_cmp ref_total ref_exact a b in_a in_b (λ one. same_find a one ∙ same one ∙ sym (same_find b one))

-- a map in order that has just the references that are met is what counting them gives
pub counts_are : (refs : List Counted) (counts : RefCounts) → IsOrdered counts → HasCounts refs counts → counts ≡ counted_all [] refs
counts_are refs counts ordered is = same_map counts (counted_all [] refs) ordered (ordered_more [] refs tt) (λ one. is one ∙ sym (counts_law refs one))

-- references that are met as often, in whatever order, are counted alike
pub counted_alike : (counts : RefCounts) (xs ys : List Counted) → IsOrdered counts → ((one : RefKey) → is_met xs one ≡ is_met ys one)
    → ((one : RefKey) → sum_of xs one ≡ sum_of ys one) → counted_all counts xs ≡ counted_all counts ys
counted_alike counts xs ys ordered met sums =
    same_map (counted_all counts xs) (counted_all counts ys) (ordered_more counts xs ordered) (ordered_more counts ys ordered)
    (λ one. found-more counts xs one
    ∙ ap (λ b. cond b (Some (count_in counts one + sum_of xs one)) (found_at counts one)) (met one)
    ∙ ap (λ n. cond (is_met ys one) (Some (count_in counts one + n)) (found_at counts one)) (sums one)
    ∙ sym (found-more counts ys one))

or_last : (a b : Bool) → (a || b) ≡ (b || (a || false))
or_last true true = refl
or_last true false = refl
or_last false true = refl
or_last false false = refl

-- one more, first or last
pub counted_last : (counts : RefCounts) (refs : List Counted) (one : Counted) → IsOrdered counts
    → counted_all counts (one ∷ refs) ≡ counted (counted_all counts refs) one
counted_last counts refs one ordered =
    counted_alike counts (one ∷ refs) (refs ++ one ∷ []) ordered
    (λ key. or_last (same_ref key one.key) (is_met refs key) ∙ sym (list_any-append (λ (other : Counted). same_ref key other.key) refs (one ∷ [])))
    (λ key.
    let weight : Counted → ℕ = λ other. cond (same_ref key other.key) other.count 0 in
    let turned : weight one + sum_of refs key ≡ sum_of refs key + (weight one + 0) = omega arith in
    sum_by-cons weight one refs ∙ turned ∙ sym (ap (λ n. sum_of refs key + n) (sum_by-cons weight one []))
    ∙ sym (sum_by-append weight refs (one ∷ [])))
    ∙ fold-append counted counts refs (one ∷ [])
