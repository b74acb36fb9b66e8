-- References in a list, in their order.
use Rattle.std.proofs.Common.{◌≡◌, ℕ, suc, zero, ◌+◌, ◌-◌, ◌<◌, ◌≤◌, ◌==◌, Bool, true, false, cond, ◌||◌, List, [], ◌∷◌, length, take, drop, get_or}
use Rattle.std.proofs.Common.{map, Some, None, ◌⊎◌, inl, inr, refl, sym, ap, ◌∙◌, true≢false, ltb, leb, ltb-true, leb-false, ne_eqb, zero-add, arith}
use Rattle.std.proofs.Common.{sum_by}
use Rattle.std.proofs.lemmas.Bool.{cases_lt}
use Rattle.std.proofs.lemmas.List.{get_or-drop, get_or-map, get_or-take, length-drop, length-map, length-take-le, take_all}
use Rattle.std.proofs.lemmas.List.Sorted.{list_any-IsPermutation, searchable_from_sorted, sum_by-IsPermutation}
use Rattle.std.proofs.lemmas.List.Sums.{sum_by-cons, sum_by-take-drop}
use Rattle.std.proofs.lemmas.Map.Keys.{Less-from_sorted, le_from_not_gt, sorted_from_all_adjacent, sorted_head, sorted_tail}
use Rattle.std.specs.List.{AllByRecursion, AllAdjacentBelow}
use Rattle.std.specs.List.Sorted.{IsNonDecreasingBy, IsPartitionPoint, IsPermutation}
use Rattle.std.specs.Map.{keys_of}
use Rattle.std.specs.Ordering.{is_eq, is_gt, is_lt, nat_cmp, ordering_index, ordering_reverse, ordering_then}
use Rattle.std.specs.declared.cmp.Ordering.{Ordering}
use Rattle.std.specs.declared.cmp.Ordering.TheVariants.{Less, Equal, Greater}
use Rattle.btr_refs.proofs.Counting.{ref_total, same_is, same_swaps, unmet-zero}
use Rattle.btr_refs.proofs.Maps.{counted_alike, counts_are, is_ordered}
use Rattle.btr_refs.specs.Counts.{HasCounts, count_of, counted_all, found_at, is_met, sum_of}
use Rattle.btr_refs.specs.declared.counted.Counted.{Counted}
use Rattle.btr_refs.specs.Differences.{total_at}
use Rattle.btr_refs.specs.Listed.{Ascends, entries_of}
use Rattle.btr_refs.specs.RefKey.{ref_cmp, same_ref}
use Rattle.btr_refs.specs.declared.ref_key.RefKey.{RefKey}

-- a reference before some others is none of them
pub unmet_behind : (one : RefKey) (refs : List Counted) → AllByRecursion (λ y. ref_cmp one y ≡ Less) (keys_of (entries_of refs)) → is_met refs one ≡ false
unmet_behind one [] all = refl
unmet_behind one (other ∷ refs) all = ap (λ r. is_eq r || is_met refs one) all.0 ∙ unmet_behind one refs all.1

-- the first of references in order, each once, isn't met among the others
pub behind : (one : Counted) (refs : List Counted) → Ascends (one ∷ refs) → is_met refs one.key ≡ false
behind one refs ascends = unmet_behind one.key refs (sorted_head ref_cmp one.key (keys_of (entries_of refs)) ascends)

-- references in order, each once, are their own map
pub own_counts : (refs : List Counted) → Ascends refs → HasCounts refs (entries_of refs)
own_counts [] ascends one = refl
own_counts (ref ∷ refs) ascends one =
    by (same_ref one ref.key) refl (own_counts refs (sorted_tail ref_cmp ref.key (keys_of (entries_of refs)) ascends) one)
    ∙ ap (λ n. cond (same_ref one ref.key || is_met refs one) (Some n) None)
    (sym (sum_by-cons (λ (other : Counted). cond (same_ref one other.key) other.count 0) ref refs))
  where
    -- with one more reference in front, by whether it is the one that is looked up
    by : (b : Bool) → same_ref one ref.key ≡ b → found_at (entries_of refs) one ≡ count_of refs one
        → cond b (Some ref.count) (found_at (entries_of refs) one) ≡ cond (b || is_met refs one) (Some (cond b ref.count 0 + sum_of refs one)) None
    by true is rest =
        let none : sum_of refs one ≡ 0 = unmet-zero refs one (ap (is_met refs) (same_is one ref.key is) ∙ behind ref refs ascends) in
        let all : ref.count ≡ ref.count + sum_of refs one = omega (arith, none) in
        ap Some all
    by false is rest = rest ∙ ap (λ n. cond (is_met refs one) (Some n) None) (sym (zero-add (sum_of refs one)))

-- references in order, each once, are what counting them gives
pub own_map : (refs : List Counted) → Ascends refs → entries_of refs ≡ counted_all [] refs
own_map refs ascends = counts_are refs (entries_of refs) (is_ordered (entries_of refs) ascends) (own_counts refs ascends)

-- references in another order are counted alike
pub shuffled : (xs ys : List Counted) → IsPermutation xs ys → counted_all [] xs ≡ counted_all [] ys
shuffled xs ys same =
    counted_alike [] xs ys tt (λ one. list_any-IsPermutation (λ (other : Counted). same_ref one other.key) xs ys same)
    (λ one. sym (sum_by-IsPermutation (λ (other : Counted). cond (same_ref one other.key) other.count 0) xs ys same))

abbrev key_in : Counted → RefKey
key_in one = one.key

-- the references in a list, without their counts
abbrev pub keys_in : List Counted → List RefKey
keys_in refs = keys_of (entries_of refs)

-- the references in a list's map are those in the list
keys_are : (refs : List Counted) → keys_in refs ≡ map key_in refs
keys_are [] = refl
keys_are (one ∷ refs) = ap (λ l. one.key ∷ l) (keys_are refs)

length_keys : (refs : List Counted) → length (keys_in refs) ≡ length refs
length_keys refs = ap length (keys_are refs) ∙ length-map refs key_in

-- the reference at a place of a list
key_at : (refs : List Counted) (k : ℕ) (d : Counted) → k < length refs → get_or (keys_in refs) k d.key ≡ (get_or refs k d).key
key_at refs k d lt = ap (λ l. get_or l k d.key) (keys_are refs) ∙ get_or-map key_in refs k d d.key lt

-- a reference to nothing, met 0 times
abbrev pub none : Counted
none = record { key = record { addr = 0; kind = 0; root = 0; objectid = 0; offset = 0 }; count = 0 }

is_less : (r : Ordering) → true ≡ is_lt r → r ≡ Less
is_less Less e = refl
is_less Equal e = absurd (true≢false e)
is_less Greater e = absurd (true≢false e)

-- each reference is below the next
pub ascends_by : (refs : List Counted) → AllAdjacentBelow (λ (one next : Counted). true ≡ is_lt (ref_cmp one.key next.key)) refs (length refs) → Ascends refs
ascends_by refs adjacent = sorted_from_all_adjacent ref_total (keys_in refs) none.key (λ k lt. less k (omega (arith, lt, length_keys refs)))
  where
    less : (k : ℕ) → k + 1 < length refs → ref_cmp (get_or (keys_in refs) k none.key) (get_or (keys_in refs) (k + 1) none.key) ≡ Less
    less k lt =
        ap (λ key. ref_cmp key (get_or (keys_in refs) (k + 1) none.key)) (key_at refs k none (omega (arith, lt)))
        ∙ ap (ref_cmp (get_or refs k none).key) (key_at refs (k + 1) none lt)
        ∙ is_less (ref_cmp (get_or refs k none).key (get_or refs (k + 1) none).key) (adjacent k none lt)

-- each is below those after it
pub below_at : (refs : List Counted) → Ascends refs → (i j : ℕ) (d : Counted) → i < j → j < length refs
    → ref_cmp (get_or refs i d).key (get_or refs j d).key ≡ Less
below_at refs ascends i j d lt in_range =
    ap (λ key. ref_cmp key (get_or refs j d).key) (sym (key_at refs i d (omega (arith, lt, in_range))))
    ∙ ap (ref_cmp (get_or (keys_in refs) i d.key)) (sym (key_at refs j d in_range))
    ∙ Less-from_sorted ref_cmp (keys_in refs) i j d.key ascends lt (omega (arith, in_range, length_keys refs))

-- a reference that stands at no place of a list has no entry in its map
no_key : (refs : List Counted) (key : RefKey) → ((k : ℕ) (d : Counted) → k < length refs → same_ref key (get_or refs k d).key ≡ false)
    → found_at (entries_of refs) key ≡ None
no_key [] key apart = refl
no_key (one ∷ refs) key apart = ap (λ b. cond b (Some one.count) (found_at (entries_of refs) key)) (apart zero one (omega arith))
    ∙ no_key refs key (λ k d lt. apart (suc k) d (omega (arith, lt)))

-- what a binary search finds
module _ (refs : List Counted) (key : RefKey) (ascends : Ascends refs) where
  -- references in order, compared with one, are first below it, then the same, then above
  rises : IsNonDecreasingBy (λ (one : Counted). ordering_index (ref_cmp one.key key)) refs
  rises = searchable_from_sorted ref_total key_in refs key (λ k d from to. ap is_lt
      (back (get_or refs k d).key (get_or refs (k + 1) d).key (below_at refs ascends k (k + 1) d (omega arith) to)))
    where
      back : (a b : RefKey) → ref_cmp a b ≡ Less → ref_cmp b a ≡ Greater
      back a b less = ref_total.antisymm b a ∙ ap ordering_reverse less

  -- where a search found only a place between those below a reference and those above it, the reference has no entry
  pub searched : (at : ℕ) → (IsNonDecreasingBy (λ (one : Counted). ordering_index (ref_cmp one.key key)) refs
      → IsPartitionPoint (λ (one : Counted). ref_cmp one.key key ≡ Less) (λ (one : Counted). ref_cmp one.key key ≡ Greater) refs at)
      → found_at (entries_of refs) key ≡ None
  searched at parted = no_key refs key (λ k d lt. by k d lt (cases_lt k at))
    where
      by : (k : ℕ) (d : Counted) → k < length refs → (k < at) ⊎ (at ≤ k) → same_ref key (get_or refs k d).key ≡ false
      by k d lt (inl less) = same_swaps key (get_or refs k d).key ∙ ap is_eq ((parted rises).0 k d (omega arith) less)
      by k d lt (inr more) = same_swaps key (get_or refs k d).key ∙ ap is_eq ((parted rises).1 k d more lt)

-- the references to the extent at an address
abbrev pub weight : ℕ → Counted → ℕ
weight addr one = cond (one.key.addr == addr) one.count 0

-- how often the extent at an address is referred to is the sum of the references to it
pub total_of : (addr : ℕ) (refs : List Counted) → total_at (entries_of refs) addr ≡ sum_by (weight addr) refs
total_of addr [] = refl
total_of addr (one ∷ refs) =
    sum_by-cons (λ (entry : RefKey × ℕ). cond (entry.0.addr == addr) entry.1 0) (one.key, one.count) (entries_of refs)
    ∙ ap (λ n. weight addr one + n) (total_of addr refs) ∙ sym (sum_by-cons (weight addr) one refs)

-- where no reference is to an address, their sum for it is 0
no_weight : (addr : ℕ) (refs : List Counted) → ((k : ℕ) (d : Counted) → k < length refs → (get_or refs k d).key.addr ≡ addr → ⊥) → sum_by (weight addr) refs ≡ 0
no_weight addr [] apart = refl
no_weight addr (one ∷ refs) apart =
    sum_by-cons (weight addr) one refs
    ∙ ap (λ b. cond b one.count 0 + sum_by (weight addr) refs) (ne_eqb one.key.addr addr (apart zero one (omega arith)))
    ∙ zero-add (sum_by (weight addr) refs) ∙ no_weight addr refs (λ k d lt. apart (suc k) d (omega (arith, lt)))

-- where two orders one after another say less, the first doesn't say greater
addr_first : (r s : Ordering) → ordering_then r s ≡ Less → is_gt r ≡ false
addr_first Less s e = refl
addr_first Equal s e = refl
addr_first Greater s e = absurd (true≢false (ap is_gt e))

-- the address that a reference refers to
abbrev pub addr_of : Counted → ℕ
addr_of one = one.key.addr

-- addresses don't fall
pub addresses_rise : (refs : List Counted) → Ascends refs → IsNonDecreasingBy addr_of refs
addresses_rise refs ascends i j d le in_range = by (cases_lt i j)
  where
    by : (i < j) ⊎ (j ≤ i) → addr_of (get_or refs i d) ≤ addr_of (get_or refs j d)
    by (inl lt) = le_from_not_gt (addr_of (get_or refs i d)) (addr_of (get_or refs j d))
        (addr_first (nat_cmp (addr_of (get_or refs i d)) (addr_of (get_or refs j d))) _
        (below_at refs ascends i j d lt in_range))
    by (inr ge) = let same : i ≡ j = omega arith in omega (arith, ap (λ k. addr_of (get_or refs k d)) same)

-- what stands between two places has all the weight
module _ (addr : ℕ) (refs : List Counted) (first count : ℕ) where
  -- the references from the first place on
  abbrev pub from_first : List Counted
  from_first = take (length refs - first) (drop first refs)

  -- from the first reference that isn't below an address up to the first above it, those to it sum up as in the whole list
  pub all_within : first ≤ length refs → IsPartitionPoint (λ (one : Counted). ltb (addr_of one) addr ≡ true)
      (λ (one : Counted). ltb (addr_of one) addr ≡ false) refs first
      → count ≤ length from_first
      → IsPartitionPoint (λ (one : Counted). leb (addr_of one) addr ≡ true) (λ (one : Counted). leb (addr_of one) addr ≡ false) from_first count
      → total_at (entries_of (take count from_first)) addr ≡ total_at (entries_of refs) addr
  all_within in_refs low in_rest high =
      let w = weight addr in
      let begin : sum_by w (take first refs) ≡ 0 = no_weight addr (take first refs) (λ k d lt is.
      let inside : k < first = omega (arith, lt, length-take-le first refs in_refs) in
      let less = ltb-true (addr_of (get_or refs k d)) addr (low.0 k d (omega arith) inside) in
      omega (arith, less, is, ap addr_of (get_or-take first refs k d inside))) in
      let end : sum_by w (drop count from_first) ≡ 0 = no_weight addr (drop count from_first) (λ k d lt is.
      let above = high.1 (count + k) d (omega arith) (omega (arith, lt, length-drop count from_first)) in
      let more = leb-false (addr_of (get_or from_first (count + k) d)) addr above in
      omega (arith, more, is, ap addr_of (get_or-drop count from_first k d))) in
      let whole = sum_by-take-drop w refs first in
      let rest = sum_by-take-drop w from_first count in
      let same : from_first ≡ drop first refs = take_all (length refs - first) (drop first refs) (omega (arith, length-drop first refs)) in
      let all : sum_by w (take count from_first) ≡ sum_by w refs = omega (arith, begin, end, whole, rest, ap (sum_by w) same) in
      total_of addr (take count from_first) ∙ all ∙ sym (total_of addr refs)
