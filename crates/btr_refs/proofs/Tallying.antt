-- How often references are counted beside those that are stored, one use more at a time.
use Rattle.std.proofs.Common.{◌≡◌, ℕ, suc, zero, ◌+◌, ◌<◌, Bool, true, false, cond, ◌||◌, List, [], ◌∷◌, ◌++◌, length, get_or, set, replicate, None}
use Rattle.std.proofs.Common.{Result, Ok, Err, OnOk, OnErr, refl, sym, ap, ◌∙◌, subst, arith}
use Rattle.std.proofs.lemmas.List.Folds.{list_any-append}
use Rattle.std.proofs.lemmas.List.Sums.{sum_by-append, sum_by-cons}
use Rattle.std.proofs.lemmas.Map.Views.{All-keys-insert_entry}
use Rattle.btr_base.specs.declared.memory.Memory.{Memory}
use Rattle.btr_refs.proofs.Maps.{counted_alike, counted_last, ordered_more}
use Rattle.btr_refs.specs.Counts.{RefCounts, count_in, counted, found_at, is_met, sum_of}
use Rattle.btr_refs.specs.declared.counted.Counted.{Counted}
use Rattle.btr_refs.specs.Listed.{AreTallied, IsOrdered, entries_of, met_times, tallied}
use Rattle.btr_refs.specs.RefKey.{ref_cmp, same_ref}
use Rattle.btr_refs.specs.declared.ref_key.RefKey.{RefKey}

-- a reference that is met once
abbrev pub once : RefKey → Counted
once key = record { key = key; count = 1 }

or_swap : (a b c : Bool) → (a || (b || c)) ≡ (b || (a || c))
or_swap true true c = refl
or_swap true false c = refl
or_swap false true c = refl
or_swap false false c = refl

-- counted once more beside its place, one is met once more, in whatever order
module _ (one : RefKey) where
  -- how much a reference of a list counts for the one
  abbrev weight : Counted → ℕ
  weight other = cond (same_ref one other.key) other.count 0

  -- a reference of a list is the one
  abbrev is_same : Counted → Bool
  is_same other = same_ref one other.key

  -- with one more beside its place, a reference is met, and so are those that were
  met_set : (refs : List Counted) (times : List ℕ) (i : ℕ) (d : Counted) (n : ℕ) → i < length refs → length times ≡ length refs
      → is_met (met_times refs (set times i (suc (get_or times i n)))) one ≡ (same_ref one (get_or refs i d).key || is_met (met_times refs times) one)
  met_set [] times i d n lt long = absurd (omega (arith, lt))
  met_set (ref ∷ refs) [] i d n lt long = absurd (omega (arith, long))
  met_set (ref ∷ refs) (t ∷ times) zero d n lt long = refl
  met_set (ref ∷ refs) (t ∷ times) (suc i) d n lt long =
      let here = replicate t (once ref.key) in
      list_any-append is_same here (met_times refs (set times i (suc (get_or times i n))))
      ∙ ap (λ b. is_met here one || b) (met_set refs times i d n (omega (arith, lt)) (omega (arith, long)))
      ∙ or_swap (is_met here one) (same_ref one (get_or refs i d).key) (is_met (met_times refs times) one)
      ∙ ap (λ b. same_ref one (get_or refs i d).key || b) (sym (list_any-append is_same here (met_times refs times)))

  -- with one more beside its place, a reference is met once more, and others as often as before
  sum_set : (refs : List Counted) (times : List ℕ) (i : ℕ) (d : Counted) (n : ℕ) → i < length refs → length times ≡ length refs
      → sum_of (met_times refs (set times i (suc (get_or times i n)))) one ≡ cond (same_ref one (get_or refs i d).key) 1 0 + sum_of (met_times refs times) one
  sum_set [] times i d n lt long = absurd (omega (arith, lt))
  sum_set (ref ∷ refs) [] i d n lt long = absurd (omega (arith, long))
  sum_set (ref ∷ refs) (t ∷ times) zero d n lt long = sum_by-cons weight (once ref.key) (replicate t (once ref.key) ++ met_times refs times)
  sum_set (ref ∷ refs) (t ∷ times) (suc i) d n lt long =
      let here = replicate t (once ref.key) in
      let new = met_times refs (set times i (suc (get_or times i n))) in
      let first = sum_by-append weight here new in
      let rest = sum_set refs times i d n (omega (arith, lt)) (omega (arith, long)) in
      let all = sum_by-append weight here (met_times refs times) in
      omega (arith, first, rest, all)

-- counted beside its place
pub counted_there : (refs : List Counted) (times : List ℕ) (others : RefCounts) (i : ℕ) (d : Counted) (n : ℕ) → IsOrdered others → i < length refs
    → length times ≡ length refs
    → tallied refs (set times i (suc (get_or times i n))) others ≡ counted (tallied refs times others) (once (get_or refs i d).key)
counted_there refs times others i d n ordered lt long =
    let key = (get_or refs i d).key in
    counted_alike others (met_times refs (set times i (suc (get_or times i n)))) (once key ∷ met_times refs times) ordered
    (λ one. met_set one refs times i d n lt long)
    (λ one. sum_set one refs times i d n lt long ∙ sym (sum_by-cons (weight one) (once key) (met_times refs times)))
    ∙ counted_last others (met_times refs times) (once key) ordered

-- counted among the others
pub counted_apart : (refs : List Counted) (times : List ℕ) (others : RefCounts) (key : RefKey) → IsOrdered others
    → tallied refs times (counted others (once key)) ≡ counted (tallied refs times others) (once key)
counted_apart refs times others key ordered = counted_last others (met_times refs times) (once key) ordered

-- a reference that isn't in the list may be counted among the others
pub tallied_apart : (refs : List Counted) (times : List ℕ) (others : RefCounts) (key : RefKey) → AreTallied refs times others
    → found_at (entries_of refs) key ≡ None
    → AreTallied refs times (counted others (once key))
tallied_apart refs times others key are absent = record {
  ascends = are.ascends;
  beside = are.beside;
  ordered = ordered_more others (once key ∷ []) are.ordered;
  apart = All-keys-insert_entry ref_cmp key (count_in others key + 1) (λ (other : RefKey). found_at (entries_of refs) other ≡ None) others are.apart absent;
}

-- where nothing is counted
pub none_times : (refs : List Counted) (n : ℕ) → met_times refs (replicate n 0) ≡ []
none_times [] n = refl
none_times (ref ∷ refs) zero = refl
none_times (ref ∷ refs) (suc n) = none_times refs n

-- where the number beside its place is one more than it was, a reference is counted once more
pub counted_next : (refs : List Counted) (times : List ℕ) (others : RefCounts) (i : ℕ) (d : Counted) (n next : ℕ) (key : RefKey) → IsOrdered others
    → i < length refs
    → length times ≡ length refs → (get_or refs i d).key ≡ key → next ≡ get_or times i n + 1
    → tallied refs (set times i next) others ≡ counted (tallied refs times others) (once key)
counted_next refs times others i d n next key ordered lt long is more =
    let one_more : get_or times i n + 1 ≡ suc (get_or times i n) = omega arith in
    ap (λ m. tallied refs (set times i m) others) (more ∙ one_more) ∙ counted_there refs times others i d n ordered lt long
    ∙ ap (λ k. counted (tallied refs times others) (once k)) is

-- where a reference that isn't in the list was counted among the others, or memory was wanting, all are tallied still
pub tallied_either : (refs : List Counted) (times : List ℕ) (others new : RefCounts) (key : RefKey) (r : Result (Unit {0}) Memory)
    → AreTallied refs times others
    → found_at (entries_of refs) key ≡ None → OnOk r (new ≡ counted others (once key)) → OnErr r (new ≡ others) → AreTallied refs times new
tallied_either refs times others new key (Ok u) are absent ok err = subst (AreTallied refs times) (sym ok) (tallied_apart refs times others key are absent)
tallied_either refs times others new key (Err e) are absent ok err = subst (AreTallied refs times) (sym err) are
