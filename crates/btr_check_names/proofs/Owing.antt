-- Names that two items each are to give: what was given and what waits, its side exchanged, are balanced.
use Rattle.std.proofs.Common.{◌≡◌, ℕ, ◌+◌, Bool, true, false, not, cond, ◌==◌, ◌&&◌, List, Option, Some, None, refl, sym, ap, ◌∙◌}
use Rattle.std.proofs.Common.{eqb-true, true≢false, subst, arith}
use Rattle.std.specs.FinMap.{FinMap, empty_of_len, get, get-empty, get-insert, get-remove, len}
use Rattle.std.specs.Ordering.{is_eq}
use Rattle.std.specs.Str.{bytes_eq}
use Rattle.btr_check_names.specs.declared.claim.Claim.{Claim}
use Rattle.btr_check_names.specs.Halves.{ClaimedHalf, meets}
use Rattle.btr_check_names.specs.Pairs.{Half, Pairs, no_pairs, claim_cmp, fits, met_left, met_fits, waiting_at, are_met}
use Rattle.btr_check_names.proofs.Claims.{claims_total, same_claim, same_names}
use Rattle.btr_check_names.proofs.Counting.{holds_not, is_not, neither}
use Rattle.btr_check_names.proofs.Claims.{two_hold}
use Rattle.btr_check_names.proofs.Halves.{given}

-- what waits counts once where it is this half
abbrev pub waits_as : Bool → List ℕ → Option Half → ℕ
waits_as s n None = 0
waits_as s n (Some half) = cond (cond half.is_first s (not s) && bytes_eq half.name n) 1 0

-- what was given so often, and what waits for its other side, is balanced
abbrev pub Owes : Pairs → (Claim → Bool → List ℕ → ℕ) → Type 0
Owes pairs count = (k : Claim) (n : List ℕ)
    → count k true n + waits_as false n (get pairs.waiting k) ≡ count k false n + waits_as true n (get pairs.waiting k)

-- before anything was given nothing waits
pub owes_nothing : (count : Claim → Bool → List ℕ → ℕ) → ((k : Claim) (s : Bool) (n : List ℕ) → count k s n ≡ 0) → Owes no_pairs count
owes_nothing count none k n = subst (λ o. count k true n + waits_as false n o ≡ count k false n + waits_as true n o) (sym (get-empty claim_cmp k))
    (omega (arith, none k true n, none k false n))

-- what waits where a half came: it where none waited, and else none
abbrev left_of : Option Half → Half → Option Half
left_of None half = Some half
left_of (Some other) half = None

-- a side that agrees with the opposite of another is that opposite
is_other : (a b : Bool) → cond a (not b) b ≡ true → a ≡ not b
is_other true true h = absurd (true≢false (sym h))
is_other true false h = refl
is_other false true h = refl
is_other false false h = absurd (true≢false (sym h))

-- what fits is the other half
fits_other : (h : Half) (s : Bool) (n : List ℕ) → fits h s n ≡ true → h ≡ record { is_first = not s; name = n }
fits_other h s n fit =
    let two = two_hold (cond h.is_first (not s) s) (bytes_eq h.name n) fit in
    λ i. record { is_first = is_other h.is_first s two.0 i; name = same_names h.name n two.1 i }

-- one half more is balanced by what waits then: at its claim
module _ (m n : List ℕ) (t t' f f' : ℕ) where
  -- where nothing waited, the half that came waits, and all is balanced
  alone : (s : Bool) → t' ≡ t + cond (cond s true false && bytes_eq m n) 1 0 → f' ≡ f + cond (cond s false true && bytes_eq m n) 1 0 → t + 0 ≡ f + 0
      → t' + waits_as false n (Some (record { is_first = s; name = m })) ≡ f' + waits_as true n (Some (record { is_first = s; name = m }))
  alone true one two before = omega (arith, one, two, before)
  alone false one two before = omega (arith, one, two, before)

  -- where the other half waited, nothing waits any more, and all is balanced
  other : (s : Bool) → t' ≡ t + cond (cond s true false && bytes_eq m n) 1 0 → f' ≡ f + cond (cond s false true && bytes_eq m n) 1 0
      → t + waits_as false n (Some (record { is_first = not s; name = m })) ≡ f + waits_as true n (Some (record { is_first = not s; name = m }))
      → t' + 0 ≡ f' + 0
  other true one two before = omega (arith, one, two, before)
  other false one two before = omega (arith, one, two, before)

  -- and at each other one
  balanced_by : (c s : Bool) (x o : Option Half) → t' ≡ t + cond (c && (cond s true false && bytes_eq m n)) 1 0
      → f' ≡ f + cond (c && (cond s false true && bytes_eq m n)) 1 0 → (c ≡ true → o ≡ x) → met_fits x s m ≡ true
      → t + waits_as false n o ≡ f + waits_as true n o
      → t' + waits_as false n (cond c (left_of x (record { is_first = s; name = m })) o)
      ≡ f' + waits_as true n (cond c (left_of x (record { is_first = s; name = m })) o)
  balanced_by false s x o one two same fit before = omega (arith, one, two, before)
  balanced_by true s None o one two same fit before =
      alone s one two (subst (λ p. t + waits_as false n p ≡ f + waits_as true n p) (same refl) before)
  balanced_by true s (Some h) o one two same fit before =
      other s one two (subst (λ p. t + waits_as false n p ≡ f + waits_as true n p) (same refl ∙ ap (λ g. Some g) (fits_other h s m fit)) before)

-- what waits at a claim after a half
left_at : (waiting : FinMap claim_cmp Half) (x : Option Half) (k q : Claim) (s : Bool) (m : List ℕ)
    → get (met_left waiting x k s m) q ≡ cond (is_eq (claim_cmp q k)) (left_of x (record { is_first = s; name = m })) (get waiting q)
left_at waiting None k q s m = get-insert claims_total waiting k (record { is_first = s; name = m }) q
left_at waiting (Some h) k q s m = get-remove claims_total waiting k q

-- where names don't differ after a half, they didn't before
pub same_before : (pairs : Pairs) (o : Option ClaimedHalf) → (meets pairs o).differ ≡ false → pairs.differ ≡ false
same_before pairs None same = same
same_before pairs (Some g) same = (neither pairs.differ (not (met_fits (waiting_at pairs.waiting g.claim) g.is_first g.name)) same).0

-- a half more, if there is one
pub owes_more : (pairs : Pairs) (o : Option ClaimedHalf) (old new : Claim → Bool → List ℕ → ℕ)
    → ((k : Claim) (s : Bool) (n : List ℕ) → new k s n ≡ old k s n + given k s n o) → (meets pairs o).differ ≡ false → Owes pairs old → Owes (meets pairs o) new
owes_more pairs None old new more same owes k n = omega (arith, more k true n, more k false n, owes k n)
owes_more pairs (Some g) old new more same owes k n =
    let x = waiting_at pairs.waiting g.claim in
    let fit = holds_not (met_fits x g.is_first g.name) (neither pairs.differ (not (met_fits x g.is_first g.name)) same).1 in
    subst (λ o. new k true n + waits_as false n o ≡ new k false n + waits_as true n o) (sym (left_at pairs.waiting x g.claim k g.is_first g.name))
    (balanced_by g.name n (old k true n) (new k true n) (old k false n) (new k false n) (is_eq (claim_cmp k g.claim)) g.is_first x (get pairs.waiting k)
    (more k true n) (more k false n) (λ is. ap (λ q. get pairs.waiting q) (same_claim k g.claim is)) fit (owes k n))

-- what it is that all are met
pub record AreMet (pairs : Pairs) : Type 0 where
  pub same : pairs.differ ≡ false
  pub none : (k : Claim) → get pairs.waiting k ≡ None

-- where pairs are met, no names differ, and nothing waits at any claim
pub met_all : (pairs : Pairs) → are_met pairs ≡ true → AreMet pairs
met_all pairs h =
    let two = two_hold (not pairs.differ) (len pairs.waiting == 0) h in
    record {
      same = is_not pairs.differ two.0;
      none = λ k. ap (λ (l : FinMap claim_cmp Half). get l k) (empty_of_len pairs.waiting (eqb-true (len pairs.waiting) 0 two.1)) ∙ get-empty claim_cmp k;
    }

-- where all are met each half was given as often as its other one
pub balanced : (pairs : Pairs) (count : Claim → Bool → List ℕ → ℕ) → AreMet pairs → Owes pairs count → (k : Claim) (n : List ℕ)
    → count k true n ≡ count k false n
balanced pairs count met owes k n =
    omega (arith, subst (λ o. count k true n + waits_as false n o ≡ count k false n + waits_as true n o) (met.none k) (owes k n))
