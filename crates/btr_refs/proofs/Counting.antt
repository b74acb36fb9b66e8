-- References, one more at a time.
use Rattle.std.proofs.Common.{◌≡◌, ℕ, ◌+◌, Bool, true, false, cond, ◌||◌, List, [], ◌∷◌, ◌++◌, Option, Some, None, refl, sym, ap, ◌∙◌, subst}
use Rattle.std.proofs.Common.{append_assoc, append-nil}
use Rattle.std.proofs.Common.{arith}
use Rattle.std.proofs.lemmas.Bool.{false≢true}
use Rattle.std.proofs.lemmas.Cmp.{then_total, on_total, nat_cmp_total}
use Rattle.std.proofs.lemmas.List.Folds.{list_any-append}
use Rattle.std.proofs.lemmas.List.Sums.{sum_by-cons, sum_by_push}
use Rattle.std.proofs.lemmas.Map.Lookups.{CmpEqualImpliesEq, exact_unsigned}
use Rattle.std.specs.BTreeMap.{is_at, insert_entry}
use Rattle.std.specs.Option.{unwrap_or}
use Rattle.std.specs.Map.{lookup}
use Rattle.std.specs.Ordering.{is_eq, match_ordering, nat_cmp}
use Rattle.std.specs.Cmp.{IsTotalOrder, eq_by_cmp_equiv}
use Rattle.std.specs.declared.cmp.Ordering.{Ordering}
use Rattle.std.specs.declared.cmp.Ordering.TheVariants.{Less, Equal, Greater}
use Rattle.btr_findings.proofs.Sets.{both_equal}
use Rattle.btr_refs.specs.declared.ref_key.RefKey.{RefKey}
use Rattle.btr_refs.specs.RefKey.{ref_cmp, same_ref}
use Rattle.btr_refs.specs.Counts.{CountsLaw, RefCounts, HasCounts, count_in, sum_of, is_met, counted, counted_all, found_at}
use Rattle.btr_refs.specs.declared.counted.Counted.{Counted}

-- references are ordered totally, field by field
pub ref_total : IsTotalOrder ref_cmp
ref_total = then_total (on_total (λ key. key.addr) nat_cmp_total)
    (then_total (on_total (λ key. key.kind) nat_cmp_total) (then_total (on_total (λ key. key.root) nat_cmp_total)
    (then_total (on_total (λ key. key.objectid) nat_cmp_total) (on_total (λ key. key.offset) nat_cmp_total))))

-- references that compare as equal are one
pub ref_exact : CmpEqualImpliesEq ref_cmp
ref_exact a b e =
    let addr = both_equal (nat_cmp a.addr b.addr) _ e in
    let kind = both_equal (nat_cmp a.kind b.kind) _ addr.1 in
    let root = both_equal (nat_cmp a.root b.root) _ kind.1 in
    let rest = both_equal (nat_cmp a.objectid b.objectid) (nat_cmp a.offset b.offset) root.1 in
    let is-addr : a.addr ≡ b.addr = exact_unsigned a.addr b.addr addr.0 in
    let is-kind : a.kind ≡ b.kind = exact_unsigned a.kind b.kind kind.0 in
    let is-root : a.root ≡ b.root = exact_unsigned a.root b.root root.0 in
    let is-objectid : a.objectid ≡ b.objectid = exact_unsigned a.objectid b.objectid rest.0 in
    let is-offset : a.offset ≡ b.offset = exact_unsigned a.offset b.offset rest.1 in
    λ i. record { addr = is-addr i; kind = is-kind i; root = is-root i; objectid = is-objectid i; offset = is-offset i }

is_eq-Equal : (o : Ordering) → is_eq o ≡ true → o ≡ Equal
is_eq-Equal Less e = absurd (false≢true e)
is_eq-Equal Equal e = refl
is_eq-Equal Greater e = absurd (false≢true e)

-- references that the test says are the same are one
pub same_is : (a b : RefKey) → same_ref a b ≡ true → a ≡ b
same_is a b e = ref_exact a b (is_eq-Equal (ref_cmp a b) e)

-- whether two references are the same doesn't hang on their order
pub same_swaps : (a b : RefKey) → same_ref a b ≡ same_ref b a
same_swaps a b = (eq_by_cmp_equiv ref_total).symm a b

-- what isn't met is met 0 times
pub unmet-zero : (refs : List Counted) (one : RefKey) → is_met refs one ≡ false → sum_of refs one ≡ 0
unmet-zero [] one unmet = refl
unmet-zero (ref ∷ refs) one unmet = sum_by-cons (λ (other : Counted). cond (same_ref one other.key) other.count 0) ref refs
    ∙ by (same_ref one ref.key) unmet (unmet-zero refs one)
  where
    by : (b : Bool) → (b || is_met refs one) ≡ false → (is_met refs one ≡ false → sum_of refs one ≡ 0) → cond b ref.count 0 + sum_of refs one ≡ 0
    by true is rest = absurd (false≢true (sym is))
    by false is rest = omega (arith, rest is)

-- what a map says of one is how often it is met
pub count-is : (refs : List Counted) (counts : RefCounts) → HasCounts refs counts → (one : RefKey) → count_in counts one ≡ sum_of refs one
count-is refs counts is one = ap (λ o. unwrap_or o 0) (is one) ∙ by (is_met refs one) refl
  where
    by : (b : Bool) → is_met refs one ≡ b → unwrap_or (cond b (Some (sum_of refs one)) None) 0 ≡ sum_of refs one
    by true met = refl
    by false unmet = sym (unmet-zero refs one unmet)

-- one more reference
pub HasCounts-more : (refs : List Counted) (old new : RefCounts) (key : RefKey) (count total : ℕ) → HasCounts refs old → total ≡ count_in old key + count
    → ((one : RefKey) → found_at new one ≡ cond (is_at (ref_cmp key) one) (Some total) (found_at old one))
    → HasCounts (refs ++ record { key = key; count = count } ∷ []) new
HasCounts-more refs old new key count total is total-is more one =
    more one ∙ by (same_ref key one) refl (same_swaps one key)
    ∙ ap (λ b. cond b (Some (sum_of refs one + cond (same_ref one key) count 0)) None)
    (sym (list_any-append (λ (other : Counted). same_ref one other.key) refs (record { key = key; count = count } ∷ [])))
    ∙ ap (λ n. cond (is_met (refs ++ record { key = key; count = count } ∷ []) one) (Some n) None)
    (sym (sum_by_push (λ (other : Counted). cond (same_ref one other.key) other.count 0) refs (record { key = key; count = count })))
  where
    whole : (b : Bool) → b || true ≡ true
    whole true = refl
    whole false = refl

    none : (b : Bool) → b || false ≡ b
    none true = refl
    none false = refl

    -- with one more reference, by whether it is the one that is looked up
    by : (b : Bool) → same_ref key one ≡ b → same_ref one key ≡ same_ref key one
        → cond b (Some total) (found_at old one) ≡ cond (is_met refs one || (same_ref one key || false))
        (Some (sum_of refs one + cond (same_ref one key) count 0)) None
    by true at swaps =
        ap Some total-is ∙ ap (λ n. Some (n + count)) (count-is refs old is key ∙ ap (sum_of refs) (same_is key one at))
        ∙ sym (ap (λ b. cond (is_met refs one || (b || false)) (Some (sum_of refs one + cond b count 0)) None) (swaps ∙ at)
        ∙ ap (λ b. cond b (Some (sum_of refs one + count)) None) (whole (is_met refs one)))
    by false apart swaps =
        is one
        ∙ sym (ap (λ b. cond (is_met refs one || (b || false)) (Some (sum_of refs one + cond b count 0)) None) (swaps ∙ apart)
        ∙ ap (λ b. cond b (Some (sum_of refs one + 0)) None) (none (is_met refs one))
        ∙ ap (λ n. cond (is_met refs one) (Some n) None) (omega arith))

cond_twice : {X : Type 0} (b : Bool) (x y z : X) → cond b x z ≡ cond b x (cond b y z)
cond_twice true x y z = refl
cond_twice false x y z = refl

-- what is at a key once another one has a value
pub insert-get : (entries : List (RefKey × ℕ)) (key : RefKey) (count : ℕ) (one : RefKey)
    → lookup (is_at (ref_cmp one)) (insert_entry ref_cmp entries key count) ≡ cond (same_ref one key) (Some count) (lookup (is_at (ref_cmp one)) entries)
insert-get [] key count one = refl
insert-get (entry ∷ entries) key count one = by (ref_cmp key entry.0) refl (insert-get entries key count one)
  where
    -- another entry at the front, by whether it is the one that is looked up
    apart : (b : Bool) → same_ref one entry.0 ≡ b → ref_cmp key entry.0 ≡ Greater
        → cond b (Some entry.1) (cond (same_ref one key) (Some count) (lookup (is_at (ref_cmp one)) entries))
        ≡ cond (same_ref one key) (Some count) (cond b (Some entry.1) (lookup (is_at (ref_cmp one)) entries))
    apart true is above =
        sym (ap (λ b. cond b (Some count) (Some entry.1)) (same_swaps one key ∙ ap (same_ref key) (same_is one entry.0 is) ∙ ap is_eq above))
    apart false is above = refl

    -- the entry at the front, by how the key compares with its own
    by : (r : Ordering) → ref_cmp key entry.0 ≡ r
        → lookup (is_at (ref_cmp one)) (insert_entry ref_cmp entries key count) ≡ cond (same_ref one key) (Some count) (lookup (is_at (ref_cmp one)) entries)
        → lookup (is_at (ref_cmp one)) (match_ordering r ((key, count) ∷ entry ∷ entries) ((entry.0, count) ∷ entries)
        (entry ∷ insert_entry ref_cmp entries key count)) ≡ cond (same_ref one key) (Some count) (lookup (is_at (ref_cmp one)) (entry ∷ entries))
    by Less is rest = refl
    by Equal is rest =
        cond_twice (same_ref one entry.0) (Some count) (Some entry.1) (lookup (is_at (ref_cmp one)) entries)
        ∙ ap (λ b. cond b (Some count) (cond (same_ref one entry.0) (Some entry.1) (lookup (is_at (ref_cmp one)) entries)))
        (ap (same_ref one) (sym (ref_exact key entry.0 is)))
    by Greater is rest =
        ap (λ o. cond (same_ref one entry.0) (Some entry.1) o) rest
        ∙ apart (same_ref one entry.0) refl is

-- what is found once some more are counted
one_more : (s t : Bool) (found before : Option ℕ) (k c n : ℕ) → found ≡ cond s (Some (k + c)) before → (s ≡ true → k ≡ unwrap_or before 0) → (t ≡ false → n ≡ 0)
    → cond t (Some (unwrap_or found 0 + n)) found ≡ cond (s || t) (Some (unwrap_or before 0 + (cond s c 0 + n))) before
one_more true true found before k c n is same none =
    let here : k + c + n ≡ unwrap_or before 0 + (c + n) = omega (arith, same refl) in
    ap (λ o. Some (unwrap_or o 0 + n)) is ∙ ap Some here
one_more true false found before k c n is same none =
    let here : k + c ≡ unwrap_or before 0 + (c + n) = omega (arith, same refl, none refl) in
    is ∙ ap Some here
one_more false true found before k c n is same none =
    let here : unwrap_or before 0 + n ≡ unwrap_or before 0 + (0 + n) = omega arith in
    ap (λ o. Some (unwrap_or o 0 + n)) is ∙ ap Some here
one_more false false found before k c n is same none = is

-- once some more are counted, one that is met among them has that much more, and another what it had
pub found-more : (counts : RefCounts) (refs : List Counted) (one : RefKey)
    → found_at (counted_all counts refs) one ≡ cond (is_met refs one) (Some (count_in counts one + sum_of refs one)) (found_at counts one)
found-more counts [] one = refl
found-more counts (ref ∷ refs) one =
    found-more (counted counts ref) refs one
    ∙ one_more (same_ref one ref.key) (is_met refs one) (found_at (counted counts ref) one) (found_at counts one) (count_in counts ref.key) ref.count
    (sum_of refs one) (insert-get counts ref.key (count_in counts ref.key + ref.count) one) (λ is. ap (count_in counts) (sym (same_is one ref.key is)))
    (unmet-zero refs one)
    ∙ ap (λ n. cond (same_ref one ref.key || is_met refs one) (Some (count_in counts one + n)) (found_at counts one))
    (sym (sum_by-cons (λ (other : Counted). cond (same_ref one other.key) other.count 0) ref refs))

-- some more references
counts_on : (done refs : List Counted) (counts : RefCounts) → HasCounts done counts → HasCounts (done ++ refs) (counted_all counts refs)
counts_on done [] counts is = subst (λ l. HasCounts l counts) (sym (append-nil done)) is
counts_on done (ref ∷ refs) counts is =
    let more : HasCounts (done ++ ref ∷ []) (counted counts ref) =
    HasCounts-more done counts (counted counts ref) ref.key ref.count (count_in counts ref.key + ref.count) is refl
    (λ one. insert-get counts ref.key (count_in counts ref.key + ref.count) one
    ∙ ap (λ b. cond b (Some (count_in counts ref.key + ref.count)) (found_at counts one)) (same_swaps one ref.key)) in
    subst (λ l. HasCounts l (counted_all (counted counts ref) refs)) (append_assoc done (ref ∷ []) refs)
    (counts_on (done ++ ref ∷ []) refs (counted counts ref) more)

-- counting some references gives the map that has just these, each as often as it is met
pub counts_law : CountsLaw
counts_law refs = counts_on [] refs [] (λ one. refl)
