-- Sets as lists in ascending order.
use Rattle.std.proofs.Common.{◌≡◌, suc, ◌≤◌, Bool, true, false, ◌||◌, List, [], ◌∷◌, length, refl, sym, ap, ◌∙◌, arith}
use Rattle.std.proofs.lemmas.Bool.{true≢false, false≢true}
use Rattle.std.proofs.lemmas.Cmp.{alike_right, then_total, on_total, nat_cmp_total}
use Rattle.std.proofs.lemmas.Map.Lookups.{CmpEqualImpliesEq, exact_unsigned, exact_bytes, btree_set_from_contains}
use Rattle.std.specs.BTreeSet.{BTreeSet, insert_key}
use Rattle.std.specs.List.{list_any, AllByRecursion}
use Rattle.std.specs.List.Sorted.{IsStrictlySortedBy}
use Rattle.std.specs.Ordering.{is_eq, is_lt, nat_cmp, ordering_then, ordering_reverse, match_ordering}
use Rattle.std.specs.Cmp.{IsTotalOrder}
use Rattle.std.specs.Cmp.Lexicographic.{slice_cmp, nat_list_cmp_total}
use Rattle.std.specs.declared.cmp.Ordering.{Ordering}
use Rattle.std.specs.declared.cmp.Ordering.TheVariants.{Less, Equal, Greater}
use Rattle.btr_findings.specs.declared.finding.Finding.{Finding}
use Rattle.btr_findings.specs.Findings.{finding_cmp, in_order, is_one_of, number_of}
use Rattle.btr_findings.proofs.Numbers.{same_kind}

-- what holds of a key and of all of a list holds with the key in its place
pub all-insert : {K : Type 0} (P : K → Type 0) (R : K → K → Ordering) (k : K) (xs : List K) → P k → AllByRecursion P xs → AllByRecursion P (insert_key R xs k)
all-insert P R k [] p all = (p, tt)
all-insert P R k (x ∷ xs) p all = by (R k x) (all-insert P R k xs p all.1)
  where
    by : (r : Ordering) → AllByRecursion P (insert_key R xs k) → AllByRecursion P (match_ordering r (k ∷ x ∷ xs) (x ∷ xs) (x ∷ insert_key R xs k))
    by Less rest = (p, all)
    by Equal rest = all
    by Greater rest = (all.0, rest)

-- where something follows of each, it holds of all
pub all-weaker : {K : Type 0} (P Q : K → Type 0) (weaker : (k : K) → P k → Q k) (xs : List K) → AllByRecursion P xs → AllByRecursion Q xs
all-weaker P Q weaker [] all = tt
all-weaker P Q weaker (x ∷ xs) all = (weaker x all.0, all-weaker P Q weaker xs all.1)

module _ {K : Type 0} (R : K → K → Ordering) (o : IsTotalOrder R) where
  -- one more at its place keeps the order
  sorted-insert : (xs : List K) (k : K) → IsStrictlySortedBy R xs → IsStrictlySortedBy R (insert_key R xs k)
  unfolding IsStrictlySortedBy
  sorted-insert [] k s = (tt, tt)
  sorted-insert (x ∷ xs) k s = by (R k x) refl (sorted-insert xs k s.1)
    where
      by : (r : Ordering) → R k x ≡ r → IsStrictlySortedBy R (insert_key R xs k)
          → IsStrictlySortedBy R (match_ordering r (k ∷ x ∷ xs) (x ∷ xs) (x ∷ insert_key R xs k))
      by Less is rest = ((is, all-weaker (λ y. R x y ≡ Less) (λ y. R k y ≡ Less) (λ y below. o.trans k x y is below) xs s.0), s)
      by Equal is rest = s
      by Greater is rest = (all-insert (λ y. R x y ≡ Less) R k xs (o.antisymm x k ∙ ap ordering_reverse is) s.0, rest)

  -- whether one of three things holds doesn't hang on their order
  pub or_swap : (a b c : Bool) → (a || (b || c)) ≡ (b || (a || c))
  or_swap true true c = refl
  or_swap true false c = refl
  or_swap false true c = refl
  or_swap false false c = refl

  or_twice : (a c : Bool) → (a || c) ≡ (a || (a || c))
  or_twice true c = refl
  or_twice false c = refl

  -- and it has that one more
  pub any-insert : (q : K) (xs : List K) (k : K) → list_any (λ y. is_eq (R q y)) (insert_key R xs k) ≡ (is_eq (R q k) || list_any (λ y. is_eq (R q y)) xs)
  any-insert q [] k = refl
  any-insert q (x ∷ xs) k = by (R k x) refl (any-insert q xs k)
    where
      by : (r : Ordering) → R k x ≡ r → list_any (λ y. is_eq (R q y)) (insert_key R xs k) ≡ (is_eq (R q k) || list_any (λ y. is_eq (R q y)) xs)
          → list_any (λ y. is_eq (R q y)) (match_ordering r (k ∷ x ∷ xs) (x ∷ xs) (x ∷ insert_key R xs k))
          ≡ (is_eq (R q k) || list_any (λ y. is_eq (R q y)) (x ∷ xs))
      by Less is rest = refl
      by Equal is rest =
          or_twice (is_eq (R q x)) (list_any (λ y. is_eq (R q y)) xs)
          ∙ ap (λ r. is_eq r || (is_eq (R q x) || list_any (λ y. is_eq (R q y)) xs)) (sym (alike_right o k x q is))
      by Greater is rest =
          ap (λ b. is_eq (R q x) || b) rest
          ∙ or_swap (is_eq (R q x)) (is_eq (R q k)) (list_any (λ y. is_eq (R q y)) xs)

-- where two orders one after another say equal, both do
pub both_equal : (a b : Ordering) → ordering_then a b ≡ Equal → (a ≡ Equal) × (b ≡ Equal)
both_equal Less b e = absurd (true≢false (ap is_lt e))
both_equal Equal b e = (refl, e)
both_equal Greater b e = absurd (false≢true (ap is_eq e))

-- findings are ordered totally, by their kinds and then their numbers
pub finding_total : IsTotalOrder finding_cmp
finding_total = then_total (on_total (λ finding. number_of finding.kind) nat_cmp_total) (on_total (λ finding. finding.n) nat_list_cmp_total)

-- findings that compare as equal are one
pub finding_exact : CmpEqualImpliesEq finding_cmp
finding_exact a b e =
    let both = both_equal (nat_cmp (number_of a.kind) (number_of b.kind)) (slice_cmp nat_cmp a.n b.n) e in
    let kind : a.kind ≡ b.kind = same_kind a.kind b.kind (exact_unsigned (number_of a.kind) (number_of b.kind) both.0) in
    let numbers : a.n ≡ b.n = exact_bytes a.n b.n both.1 in
    λ i. record { kind = kind i; n = numbers i }

-- the set of some findings ascends
pub sorted-in_order : (findings : List Finding) → IsStrictlySortedBy finding_cmp (in_order findings)
unfolding IsStrictlySortedBy
sorted-in_order [] = tt
sorted-in_order (finding ∷ findings) = sorted-insert finding_cmp finding_total (in_order findings) finding (sorted-in_order findings)

-- a finding is in the set of some where it is one of them
pub any-in_order : (findings : List Finding) (one : Finding) → list_any (λ y. is_eq (finding_cmp one y)) (in_order findings) ≡ is_one_of findings one
any-in_order [] one = refl
any-in_order (finding ∷ findings) one =
    any-insert finding_cmp finding_total one (in_order findings) finding
    ∙ ap (λ b. is_eq (finding_cmp one finding) || b) (any-in_order findings one)

-- the set of some findings, in its order
pub set_of : List Finding → BTreeSet Finding
set_of keys = record { keys = keys }

-- which findings are in two lists says whether their sets are the same
pub same_findings : (xs ys : List Finding) → ((one : Finding) → is_one_of xs one ≡ is_one_of ys one) → in_order xs ≡ in_order ys
unfolding set_of
same_findings xs ys same =
    btree_set_from_contains finding_total (set_of (in_order xs)) (set_of (in_order ys)) (sorted-in_order xs) (sorted-in_order ys)
    (λ one. any-in_order xs one ∙ same one ∙ sym (any-in_order ys one)) finding_exact

-- what comes before all others is the first
first_is : (first : Finding) (rest : List Finding) → AllByRecursion (λ y. finding_cmp first y ≡ Less) rest → insert_key finding_cmp rest first ≡ first ∷ rest
first_is first [] below = refl
first_is first (one ∷ rest) below = ap (λ r. match_ordering r (first ∷ one ∷ rest) (one ∷ rest) (one ∷ insert_key finding_cmp rest first)) below.0

-- what holds of all of some findings holds of all of their set
all-in_order : (P : Finding → Type 0) (findings : List Finding) → AllByRecursion P findings → AllByRecursion P (in_order findings)
all-in_order P [] all = tt
all-in_order P (finding ∷ findings) all = all-insert P finding_cmp finding (in_order findings) all.0 (all-in_order P findings all.1)

-- a finding that comes before all others is the first of their set
pub first_in_order : (first : Finding) (rest : List Finding) → AllByRecursion (λ y. finding_cmp first y ≡ Less) rest → in_order (first ∷ rest)
    ≡ first ∷ in_order rest
first_in_order first rest below = first_is first (in_order rest) (all-in_order (λ y. finding_cmp first y ≡ Less) rest below)

-- there are no more of them in order
length-insert : (k : Finding) (xs : List Finding) → length (insert_key finding_cmp xs k) ≤ suc (length xs)
length-insert k [] = omega arith
length-insert k (x ∷ xs) = by (finding_cmp k x) (length-insert k xs)
  where
    by : (r : Ordering) → length (insert_key finding_cmp xs k) ≤ suc (length xs)
        → length (match_ordering r (k ∷ x ∷ xs) (x ∷ xs) (x ∷ insert_key finding_cmp xs k)) ≤ suc (length (x ∷ xs))
    by Less rest = omega arith
    by Equal rest = omega arith
    by Greater rest = omega (arith, rest)

-- a set has no more findings than the list that it was made of
pub length-in_order : (findings : List Finding) → length (in_order findings) ≤ length findings
length-in_order [] = omega arith
length-in_order (finding ∷ findings) =
    let rest : length (in_order findings) ≤ length findings = length-in_order findings in
    let here : length (insert_key finding_cmp (in_order findings) finding) ≤ suc (length (in_order findings)) = length-insert finding (in_order findings) in
    omega (arith, rest, here)
