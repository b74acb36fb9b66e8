-- Rows of references that are counted and stored, and of extents.
use Rattle.std.proofs.Common.{◌≡◌, ℕ, suc, zero, ◌+◌, ◌*◌, ◌<◌, Bool, true, false, cond, ◌||◌, ◌&&◌, List, [], ◌∷◌, ◌++◌, length, get_or, replicate}
use Rattle.std.proofs.Common.{Option, Some, None, filter_map}
use Rattle.std.proofs.Common.{T, refl, sym, ap, ◌∙◌, true≢false, zero-add, arith}
use Rattle.std.proofs.lemmas.List.Folds.{list_any-append, sum_by-replicate}
use Rattle.std.proofs.lemmas.List.Sums.{sum_by-append, sum_by-cons}
use Rattle.std.specs.BTreeMap.{insert_entry}
use Rattle.std.specs.Cmp.{eq_by_cmp_equiv}
use Rattle.std.specs.FinMap.Entries.{below_all, is_sorted}
use Rattle.std.specs.List.{All, list_any}
use Rattle.std.specs.Map.{keys_of}
use Rattle.std.specs.Option.{unwrap_or, is_some}
use Rattle.std.specs.Ordering.{is_eq, is_lt, match_ordering}
use Rattle.std.specs.declared.cmp.Ordering.{Ordering}
use Rattle.std.specs.declared.cmp.Ordering.TheVariants.{Less, Equal, Greater}
use Rattle.std.proofs.lemmas.Map.Keys.{sorted_tail}
use Rattle.btr_findings.specs.declared.finding.Finding.{Finding}
use Rattle.btr_findings.specs.Findings.{is_row, is_one_of, is_same, is_shown}
use Rattle.btr_findings.proofs.Rules.{rows-any}
use Rattle.btr_findings.specs.declared.extent.Extent.{Extent}
use Rattle.btr_refs.proofs.Counting.{count-is, found-more, ref_exact, ref_total, same_is, same_swaps, unmet-zero}
use Rattle.btr_refs.proofs.Listing.{behind, own_counts}
use Rattle.btr_refs.proofs.Tallying.{once}
use Rattle.btr_refs.specs.Counts.{RefCounts, count_in, counted, counted_all, found_at, is_met, sum_of}
use Rattle.btr_refs.specs.declared.counted.Counted.{Counted}
use Rattle.btr_refs.specs.Differences.{count_row, ref_count, ref_total as total_rule, ref_alone, count_findings, total_findings}
use Rattle.btr_refs.specs.Listed.{AreTallied, Ascends, IsOrdered, entries_of, met_times, tallied}
use Rattle.btr_refs.specs.RefKey.{ref_cmp, same_ref}
use Rattle.btr_refs.specs.declared.ref_key.RefKey.{RefKey}

same_itself : (key : RefKey) → same_ref key key ≡ true
same_itself key = (eq_by_cmp_equiv ref_total).refl key

-- what holds at each place alike
pub any_alike : {X : Type 0} (p q : X → Bool) (xs : List X) → ((i : ℕ) (d : X) → i < length xs → p (get_or xs i d) ≡ q (get_or xs i d))
    → list_any p xs ≡ list_any q xs
any_alike p q [] same = refl
any_alike p q (x ∷ xs) same =
    ap (λ b. b || list_any p xs) (same zero x (omega arith)) ∙ ap (λ b. q x || b) (any_alike p q xs (λ i d lt. same (suc i) d (omega (arith, lt))))

-- a reference at a place is met there alone
module _ (key : RefKey) where
  -- how much a reference of a list counts for the one
  abbrev weight : Counted → ℕ
  weight other = cond (same_ref key other.key) other.count 0

  -- a reference that is met so many times counts so much for itself, and nothing for another
  sum_times : (t : ℕ) (other : RefKey) → sum_of (replicate t (once other)) key ≡ t * cond (same_ref key other) 1 0
  sum_times t other = sum_by-replicate weight t (once other)

  -- a reference that isn't in the list is met 0 times, whatever the numbers beside it
  unmet_times : (refs : List Counted) (times : List ℕ) → is_met refs key ≡ false → sum_of (met_times refs times) key ≡ 0
  unmet_times [] times unmet = refl
  unmet_times (ref ∷ refs) [] unmet = refl
  unmet_times (ref ∷ refs) (t ∷ times) unmet = by (same_ref key ref.key) refl unmet (unmet_times refs times)
    where
      by : (b : Bool) → same_ref key ref.key ≡ b → (b || is_met refs key) ≡ false → (is_met refs key ≡ false → sum_of (met_times refs times) key ≡ 0)
          → sum_of (met_times (ref ∷ refs) (t ∷ times)) key ≡ 0
      by true is none rest = absurd (true≢false none)
      by false is none rest =
          let here = sum_times t ref.key ∙ ap (λ b. t * cond b 1 0) is in
          let later = rest none in
          let all = sum_by-append weight (replicate t (once ref.key)) (met_times refs times) in
          omega (arith, here, later, all)

-- a reference that isn't met in a list stands at no place of it
not_first : (ref : Counted) (refs : List Counted) (i : ℕ) (d : Counted) → is_met refs ref.key ≡ false → i < length refs
    → same_ref (get_or refs i d).key ref.key ≡ false
not_first ref [] i d unmet lt = absurd (omega (arith, lt))
not_first ref (one ∷ refs) i d unmet lt = by (same_ref ref.key one.key) refl unmet (λ i none lt. not_first ref refs i d none lt) i lt
  where
    by : (b : Bool) → same_ref ref.key one.key ≡ b → (b || is_met refs ref.key) ≡ false
        → ((i : ℕ) → is_met refs ref.key ≡ false → i < length refs → same_ref (get_or refs i d).key ref.key ≡ false) → (i : ℕ) → i < length (one ∷ refs)
        → same_ref (get_or (one ∷ refs) i d).key ref.key ≡ false
    by true is none rest i lt = absurd (true≢false none)
    by false is none rest zero lt = same_swaps one.key ref.key ∙ is
    by false is none rest (suc i) lt = rest i none (omega (arith, lt))

-- a reference of a list in order, each once, is met as often as its count says
sum_at : (refs : List Counted) (i : ℕ) (d : Counted) → Ascends refs → i < length refs → sum_of refs (get_or refs i d).key ≡ (get_or refs i d).count
sum_at [] i d ascends lt = absurd (omega (arith, lt))
sum_at (ref ∷ refs) zero d ascends lt =
    let here = sum_by-cons (weight ref.key) ref refs ∙ ap (λ b. cond b ref.count 0 + sum_of refs ref.key) (same_itself ref.key) in
    let rest = unmet-zero refs ref.key (behind ref refs ascends) in
    omega (arith, here, rest)
sum_at (ref ∷ refs) (suc i) d ascends lt =
    let key = (get_or refs i d).key in
    let in_rest : i < length refs = omega (arith, lt) in
    let here = sum_by-cons (weight key) ref refs ∙ ap (λ b. cond b ref.count 0 + sum_of refs key) (not_first ref refs i d (behind ref refs ascends) in_rest) in
    let rest = sum_at refs i d (sorted_tail ref_cmp ref.key (keys_of (entries_of refs)) ascends) in_rest in
    omega (arith, here, rest)

-- a reference of a list in order, each once, is met as often as the number beside it says
times_at : (refs : List Counted) (times : List ℕ) (i : ℕ) (d : Counted) → Ascends refs → length times ≡ length refs → i < length refs
    → sum_of (met_times refs times) (get_or refs i d).key ≡ get_or times i 0
times_at [] times i d ascends long lt = absurd (omega (arith, lt))
times_at (ref ∷ refs) [] i d ascends long lt = absurd (omega (arith, long))
times_at (ref ∷ refs) (t ∷ times) zero d ascends long lt =
    let here = sum_times ref.key t ref.key ∙ ap (λ b. t * cond b 1 0) (same_itself ref.key) in
    let rest = unmet_times ref.key refs times (behind ref refs ascends) in
    let all = sum_by-append (weight ref.key) (replicate t (once ref.key)) (met_times refs times) in
    omega (arith, here, rest, all)
times_at (ref ∷ refs) (t ∷ times) (suc i) d ascends long lt =
    let key = (get_or refs i d).key in
    let in_rest : i < length refs = omega (arith, lt) in
    let here = sum_times key t ref.key ∙ ap (λ b. t * cond b 1 0) (not_first ref refs i d (behind ref refs ascends) in_rest) in
    let rest = times_at refs times i d (sorted_tail ref_cmp ref.key (keys_of (entries_of refs)) ascends) (omega (arith, long)) in_rest in
    let all = sum_by-append (weight key) (replicate t (once ref.key)) (met_times refs times) in
    omega (arith, here, rest, all)

-- where a reference is none of the others, it is counted as the list says
listed_count : (others : RefCounts) (more : List Counted) (key : RefKey) → found_at others key ≡ None → count_in (counted_all others more) key ≡ sum_of more key
listed_count others more key none =
    ap (λ o. unwrap_or o 0) (found-more others more key) ∙ ap (λ o. unwrap_or (cond (is_met more key) (Some (unwrap_or o 0 + sum_of more key)) o) 0) none
    ∙ by (is_met more key) refl
  where
    by : (b : Bool) → is_met more key ≡ b → unwrap_or (cond b (Some (0 + sum_of more key)) None) 0 ≡ sum_of more key
    by true met = zero-add (sum_of more key)
    by false unmet = sym (unmet-zero more key unmet)

-- a reference at a place of a list is met in it
met_at : (refs : List Counted) (i : ℕ) (d : Counted) → i < length refs → is_met refs (get_or refs i d).key ≡ true
met_at [] i d lt = absurd (omega (arith, lt))
met_at (ref ∷ refs) zero d lt = ap (λ b. b || is_met refs ref.key) (same_itself ref.key)
met_at (ref ∷ refs) (suc i) d lt =
    ap (λ b. same_ref (get_or refs i d).key ref.key || b) (met_at refs i d (omega (arith, lt))) ∙ or_true (same_ref (get_or refs i d).key ref.key)
  where
    or_true : (b : Bool) → (b || true) ≡ true
    or_true true = refl
    or_true false = refl

-- a reference in the list is none of the others, where none of these is in the list
no_other : (found : RefKey → Option ℕ) (others : RefCounts) (key : RefKey) (n : ℕ) → All (λ other. found other ≡ None) (keys_of others) → found key ≡ Some n
    → found_at others key ≡ None
no_other found [] key n apart is = refl
no_other found (entry ∷ others) key n apart is = by (same_ref key entry.0) refl (no_other found others key n (λ k d lt. apart (suc k) d (omega (arith, lt))) is)
  where
    by : (b : Bool) → same_ref key entry.0 ≡ b → found_at others key ≡ None → cond b (Some entry.1) (found_at others key) ≡ None
    by true same rest = absurd (true≢false (sym (ap is_some is) ∙ ap (λ k. is_some (found k)) (same_is key entry.0 same)
        ∙ ap is_some (apart zero entry.0 (omega arith))))
    by false same rest = rest

-- the reference of an entry of a map in order is found with that entry's count
other_at : (others : RefCounts) (i : ℕ) (d : RefKey × ℕ) → IsOrdered others → i < length others
    → found_at others (get_or others i d).0 ≡ Some (get_or others i d).1
other_at [] i d ordered lt = absurd (omega (arith, lt))
other_at (entry ∷ others) zero d ordered lt = ap (λ b. cond b (Some entry.1) (found_at others entry.0)) (same_itself entry.0)
other_at (entry ∷ others) (suc i) d ordered lt =
    let in_rest : i < length others = omega (arith, lt) in
    let both = split (below_all ref_cmp entry.0 others) (is_sorted ref_cmp others) ordered in
    ap (λ b. cond b (Some entry.1) (found_at others (get_or others i d).0)) (later others i d both.0 in_rest) ∙ other_at others i d both.1 in_rest
  where
    split : (a b : Bool) → T (a && b) → T a × T b
    split true b p = (tt, p)
    split false b p = absurd p

    less : (r : Ordering) → T (is_lt r) → r ≡ Less
    less Less p = refl
    less Equal p = absurd p
    less Greater p = absurd p

    -- entries behind one have other references
    later : (es : RefCounts) (i : ℕ) (d : RefKey × ℕ) → T (below_all ref_cmp entry.0 es) → i < length es → same_ref (get_or es i d).0 entry.0 ≡ false
    later [] i d p lt = absurd (omega (arith, lt))
    later (e ∷ es) zero d p lt =
        same_swaps e.0 entry.0 ∙ ap is_eq (less (ref_cmp entry.0 e.0) (split (is_lt (ref_cmp entry.0 e.0)) (below_all ref_cmp entry.0 es) p).0)
    later (e ∷ es) (suc i) d p lt = later es i d (split (is_lt (ref_cmp entry.0 e.0)) (below_all ref_cmp entry.0 es) p).1 (omega (arith, lt))

-- tests of the references of maps and lists
module _ (p : RefKey → Bool) where
  -- a test holds of a reference in a list's map where it holds of one in the list
  any_entries : (refs : List Counted) → list_any p (keys_of (entries_of refs)) ≡ list_any (λ (ref : Counted). p ref.key) refs
  any_entries [] = refl
  any_entries (ref ∷ refs) = ap (λ b. p ref.key || b) (any_entries refs)

  -- a test holds of a reference in a map where it holds of that of an entry
  any_keys : (counts : RefCounts) → list_any p (keys_of counts) ≡ list_any (λ (entry : RefKey × ℕ). p entry.0) counts
  any_keys [] = refl
  any_keys (entry ∷ counts) = ap (λ b. p entry.0 || b) (any_keys counts)

  -- with one more entry, a test holds of its reference or of one that was there
  keys_insert : (counts : RefCounts) (key : RefKey) (n : ℕ) → list_any p (keys_of (insert_entry ref_cmp counts key n)) ≡ (p key || list_any p (keys_of counts))
  keys_insert [] key n = refl
  keys_insert (entry ∷ counts) key n = by (ref_cmp key entry.0) refl (keys_insert counts key n)
    where
      or_twice : (a b : Bool) → (a || b) ≡ (a || (a || b))
      or_twice true b = refl
      or_twice false b = refl

      or_swap : (a b c : Bool) → (a || (b || c)) ≡ (b || (a || c))
      or_swap true true c = refl
      or_swap true false c = refl
      or_swap false true c = refl
      or_swap false false c = refl

      by : (r : Ordering) → ref_cmp key entry.0 ≡ r → list_any p (keys_of (insert_entry ref_cmp counts key n)) ≡ (p key || list_any p (keys_of counts))
          → list_any p (keys_of (match_ordering r ((key, n) ∷ entry ∷ counts) ((entry.0, n) ∷ counts) (entry ∷ insert_entry ref_cmp counts key n)))
          ≡ (p key || list_any p (keys_of (entry ∷ counts)))
      by Less is rest = refl
      by Equal is rest = or_twice (p entry.0) (list_any p (keys_of counts))
          ∙ ap (λ k. p k || (p entry.0 || list_any p (keys_of counts))) (sym (ref_exact key entry.0 is))
      by Greater is rest = ap (λ b. p entry.0 || b) rest ∙ or_swap (p entry.0) (p key) (list_any p (keys_of counts))

  -- with more references counted, a test holds of one of them or of one that was there
  keys_any : (counts : RefCounts) (more : List Counted) → list_any p (keys_of (counted_all counts more))
      ≡ (list_any (λ (ref : Counted). p ref.key) more || list_any p (keys_of counts))
  keys_any counts [] = refl
  keys_any counts (ref ∷ more) =
      keys_any (counted counts ref) more
      ∙ ap (λ b. list_any (λ (other : Counted). p other.key) more || b) (keys_insert counts ref.key (count_in counts ref.key + ref.count))
      ∙ turned (list_any (λ (other : Counted). p other.key) more) (p ref.key) (list_any p (keys_of counts))
    where
      turned : (a b c : Bool) → (a || (b || c)) ≡ ((b || a) || c)
      turned true true c = refl
      turned true false c = refl
      turned false true c = refl
      turned false false c = refl

  -- a test holds of a reference, or of it met any number of times, where it holds of the reference
  any_once : (t : ℕ) (key : RefKey) → (list_any (λ (ref : Counted). p ref.key) (replicate t (once key)) || p key) ≡ p key
  any_once zero key = refl
  any_once (suc t) key = within (p key) (list_any (λ (ref : Counted). p ref.key) (replicate t (once key))) (any_once t key)
    where
      within : (a b : Bool) → (b || a) ≡ a → ((a || b) || a) ≡ a
      within true b e = refl
      within false b e = e

  -- those that are met some times are among those in the list
  any_times : (refs : List Counted) (times : List ℕ) → (list_any (λ (ref : Counted). p ref.key) (met_times refs times)
      || list_any (λ (ref : Counted). p ref.key) refs)
      ≡ list_any (λ (ref : Counted). p ref.key) refs
  any_times [] times = refl
  any_times (ref ∷ refs) [] = refl
  any_times (ref ∷ refs) (t ∷ times) =
      ap (λ b. b || (p ref.key || list_any (λ (other : Counted). p other.key) refs))
      (list_any-append (λ (other : Counted). p other.key) (replicate t (once ref.key)) (met_times refs times))
      ∙ absorbed (list_any (λ (other : Counted). p other.key) (replicate t (once ref.key))) (list_any (λ (other : Counted). p other.key) (met_times refs times))
      (p ref.key) (list_any (λ (other : Counted). p other.key) refs) (any_once t ref.key) (any_times refs times)
    where
      absorbed : (a b c d : Bool) → (a || c) ≡ c → (b || d) ≡ d → ((a || b) || (c || d)) ≡ (c || d)
      absorbed true b true d e f = refl
      absorbed true b false d e f = absurd (true≢false e)
      absorbed false true true d e f = refl
      absorbed false true false d e f = f
      absorbed false false c d e f = refl

-- what holds of all references of a map holds of the one at a place
other_apart : (P : RefKey → Type 0) (others : RefCounts) → All P (keys_of others) → (i : ℕ) (d : RefKey × ℕ) → i < length others → P (get_or others i d).0
other_apart P [] all i d lt = absurd (omega (arith, lt))
other_apart P (entry ∷ others) all zero d lt = all zero entry.0 (omega arith)
other_apart P (entry ∷ others) all (suc i) d lt = other_apart P others (λ k e in_range. all (suc k) e (omega (arith, in_range))) i d (omega (arith, lt))

module _ (refs : List Counted) (times : List ℕ) (others : RefCounts) (are : AreTallied refs times others) where
  -- the references as they are stored
  abbrev stored : RefCounts
  stored = entries_of refs

  -- the references as they are counted
  abbrev forward : RefCounts
  forward = tallied refs times others

  -- a reference is stored as often as it is met in the list
  stored_count : (key : RefKey) → count_in stored key ≡ sum_of refs key
  stored_count key = count-is refs stored (own_counts refs are.ascends) key

  -- the row of a reference in the list
  pub listed_row : (i : ℕ) (d : Counted) → i < length refs → count_row (get_or refs i d).key (get_or times i 0) (get_or refs i d).count
      ≡ ref_count forward stored (get_or refs i d).key
  listed_row i d lt =
      let one = get_or refs i d in
      let none : found_at others one.key ≡ None = no_other (found_at stored) others one.key (sum_of refs one.key) are.apart
      (own_counts refs are.ascends one.key ∙ ap (λ b. cond b (Some (sum_of refs one.key)) None) (met_at refs i d lt)) in
      ap (λ n. count_row one.key n one.count) (sym (listed_count others (met_times refs times) one.key none
      ∙ times_at refs times i d are.ascends are.beside lt))
      ∙ ap (count_row one.key (count_in forward one.key)) (sym (stored_count one.key ∙ sum_at refs i d are.ascends lt))

  -- the row of another one
  pub other_row : (i : ℕ) (d : RefKey × ℕ) → i < length others
      → count_row (get_or others i d).0 (get_or others i d).1 0 ≡ ref_count forward stored (get_or others i d).0
  other_row i d lt =
      let key = (get_or others i d).0 in
      let n = (get_or others i d).1 in
      let absent : found_at stored key ≡ None = other_apart (λ k. found_at stored k ≡ None) others are.apart i d lt in
      let unmet : is_met refs key ≡ false = unmet_none (is_met refs key) (sum_of refs key) (sym (own_counts refs are.ascends key) ∙ absent) in
      let none = unmet_times key refs times unmet in
      let counted_is : count_in forward key ≡ n = ap (λ o. unwrap_or o 0) (found-more others (met_times refs times) key)
      ∙ ap (λ o. unwrap_or (cond (is_met (met_times refs times) key) (Some (unwrap_or o 0 + sum_of (met_times refs times) key)) o) 0)
      (other_at others i d are.ordered lt)
      ∙ alone (is_met (met_times refs times) key) n (sum_of (met_times refs times) key) none in
      ap (λ m. count_row key m 0) (sym counted_is) ∙ ap (count_row key (count_in forward key)) (sym (ap (λ o. unwrap_or o 0) absent))
    where
      alone : (b : Bool) (n m : ℕ) → m ≡ 0 → unwrap_or (cond b (Some (n + m)) (Some n)) 0 ≡ n
      alone true n m e = omega (arith, e)
      alone false n m e = refl

      unmet_none : (b : Bool) (n : ℕ) → cond b (Some n) None ≡ None → b ≡ false
      unmet_none true n e = absurd (true≢false (ap is_some e))
      unmet_none false n e = refl

  -- what is put of the list, and of the others, is what is found on counts
  pub count_rows : (one : Finding) (a b c : Bool) → b ≡ (list_any (is_row (λ (ref : Counted). ref_count forward stored ref.key) one) refs || a)
      → c ≡ (list_any (is_row (λ (entry : RefKey × ℕ). count_row entry.0 entry.1 0) one) others || b) → c ≡ (is_one_of (count_findings forward stored) one || a)
  count_rows one a b c first second =
      let p : RefKey → Bool = is_row (ref_count forward stored) one in
      let listed = list_any (λ (ref : Counted). p ref.key) refs in
      let times_any = list_any (λ (ref : Counted). p ref.key) (met_times refs times) in
      let all : is_one_of (count_findings forward stored) one ≡ ((times_any || list_any p (keys_of others)) || listed) =
      rows-any (ref_count forward stored) one (keys_of forward ++ keys_of stored) ∙ list_any-append p (keys_of forward) (keys_of stored)
      ∙ ap (λ x. x || list_any p (keys_of stored)) (keys_any p others (met_times refs times))
      ∙ ap (λ x. (times_any || list_any p (keys_of others)) || x) (any_entries p refs) in
      second
      ∙ ap (λ x. x || b) (any_alike (is_row (λ (entry : RefKey × ℕ). count_row entry.0 entry.1 0) one) (λ (entry : RefKey × ℕ). p entry.0) others
      (λ i d lt. ap (is_shown one) (other_row i d lt)) ∙ sym (any_keys p others))
      ∙ ap (λ x. list_any p (keys_of others) || x) first
      ∙ joined times_any (list_any p (keys_of others)) listed a (any_times p refs times)
      ∙ ap (λ x. x || a) (sym all)
    where
      joined : (t o l a : Bool) → (t || l) ≡ l → (o || (l || a)) ≡ (((t || o) || l) || a)
      joined true true true a e = refl
      joined true false true a e = refl
      joined true o false a e = absurd (true≢false e)
      joined false true l a e = refl
      joined false false l a e = refl

-- the rows of the extents, and of the references where there is none
pub total_rows : (refs : List Counted) (extents : List Extent) (one : Finding) (a b c : Bool)
    → b ≡ (list_any (is_row (total_rule (entries_of refs)) one) extents || a)
    → c ≡ (list_any (is_row (λ (ref : Counted). ref_alone extents (entries_of refs) ref.key) one) refs || b)
    → c ≡ (is_one_of (total_findings extents (entries_of refs)) one || a)
total_rows refs extents one a b c first second =
    let stored = entries_of refs in
    let t : Bool = list_any (is_row (total_rule stored) one) extents in
    let alone : Bool = list_any (is_row (ref_alone extents stored) one) (keys_of stored) in
    second ∙ ap (λ x. x || b) (sym (any_entries (is_row (ref_alone extents stored) one) refs)) ∙ ap (λ x. alone || x) first
    ∙ turned alone t a
    ∙ ap (λ x. x || a)
    (sym (list_any-append (is_same one) (filter_map (total_rule stored) extents) (filter_map (ref_alone extents stored) (keys_of stored))
    ∙ ap (λ x. x || is_one_of (filter_map (ref_alone extents stored) (keys_of stored)) one) (rows-any (total_rule stored) one extents)
    ∙ ap (λ x. t || x) (rows-any (ref_alone extents stored) one (keys_of stored))))
  where
    turned : (x y z : Bool) → (x || (y || z)) ≡ ((y || x) || z)
    turned true true z = refl
    turned true false z = refl
    turned false true z = refl
    turned false false z = refl
