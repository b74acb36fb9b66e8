-- What waits in a list of slots: looking up, letting go, one more behind all, and moving together.
use Rattle.std.proofs.Common.{◌≡◌, ℕ, zero, suc, ◌+◌, ◌-◌, ◌*◌, ◌<◌, ◌≤◌, ◌==◌, ◌++◌, Bool, true, false, not, cond, ◌&&◌, ◌||◌, ◌⊎◌, List, [], ◌∷◌, map}
use Rattle.std.proofs.Common.{filter, length, take, drop, get_or, set}
use Rattle.std.proofs.Common.{All, Option, Some, None, Result, Ok, Err, IfOk, IfErr, inl, inr, refl, sym, ap, subst, ◌∙◌, true≢false, ne_eqb, arith}
use Rattle.std.proofs.lemmas.Bool.{cases_lt}
use Rattle.std.proofs.lemmas.Grind.{drop_more_same}
use Rattle.std.proofs.lemmas.List.{get_or_default, get_or-map, length-map, map-set, set-get_or, length-set, length-append, length-drop, drop-append-le}
use Rattle.std.proofs.lemmas.List.{take-append-le, drop_at, drop-set-lt, drop_more, append_assoc, take_more_set, length-take-le, take_all}
use Rattle.std.proofs.lemmas.List.{get_or_append_left, get_or_at}
use Rattle.std.proofs.lemmas.List.Elements.{recursion_from_All, All-get_or, All-set, All-push, All-same, All-weaker}
use Rattle.std.proofs.lemmas.List.Kept.{AllPairs-filter}
use Rattle.std.proofs.lemmas.List.Sorted.{searchable_from_sorted}
use Rattle.std.proofs.lemmas.List.Sums.{length-filter, count_by-le-length}
use Rattle.std.specs.BTreeMap.{is_at}
use Rattle.std.specs.FinMap.{FinMap, find, from_entries, get, get-from_entries, get-remove, insert, remove, same_map, from_entries_push, len, len-empty}
use Rattle.std.specs.FinMap.{len-insert, contains_key, empty_of_len, get-empty}
use Rattle.std.specs.List.{AllByRecursion, list_any}
use Rattle.std.specs.Option.{is_some}
use Rattle.std.specs.List.Sorted.{IsNonDecreasingBy, IsSearchInRange, IsBinarySearchResult}
use Rattle.std.specs.Ordering.{is_eq, is_lt, ordering_index, ordering_reverse}
use Rattle.std.specs.declared.cmp.Ordering.{Ordering}
use Rattle.std.specs.declared.cmp.Ordering.TheVariants.{Less, Equal, Greater}
use Rattle.btr_check_names.specs.declared.claim.Claim.{Claim}
use Rattle.btr_check_names.specs.Pairs.{Half, claim_cmp}
use Rattle.btr_check_names.specs.Slots.{Slot, AllBelow, Ascends, HasClaim, HasNone, IsInside, IsLaid, IsNext, half_in, listed, waits}
use Rattle.btr_check_names.proofs.Claims.{same_claim, claim_itself, claims_total, one_claim}

-- where a claim is below another one, that one is above it
above : (a b : Claim) → claim_cmp a b ≡ Less → claim_cmp b a ≡ Greater
above a b less = claims_total.antisymm b a ∙ ap ordering_reverse less

-- a claim below another one isn't that one
pub is_not_above : (a b : Claim) → claim_cmp a b ≡ Less → is_at (claim_cmp b) a ≡ false
is_not_above a b less = ap is_eq (above a b less)

-- look-ups in the first slot, and behind it
first_or_rest : (b : Bool) (q : Claim) (e : Claim × Half) (es : List (Claim × Half))
    → find claim_cmp q (cond b (e ∷ es) es) ≡ cond (b && is_at (claim_cmp q) e.0) (Some e.1) (find claim_cmp q es)
first_or_rest true q e es = refl
first_or_rest false q e es = refl

-- the first slot is passed over where its claim is another one
past : (a b : Bool) (x y z : Option Half) → b ≡ false → y ≡ z → cond (a && b) x y ≡ z
past true true x y z not same = absurd (true≢false not)
past true false x y z not same = same
past false b x y z not same = same

-- the answer is the first slot's, where it has the claim and nothing behind it does
here : (a b : Bool) (x y : Option Half) → b ≡ true → y ≡ None → cond (a && b) x y ≡ cond a x None
here true true x y is none = refl
here true false x y is none = absurd (true≢false (sym is))
here false b x y is none = none

-- where nothing behind the first slot has its claim, taking it away leaves what is behind it
first_gone : (a b : Bool) (x y : Option Half) → (b ≡ true → y ≡ None) → y ≡ cond b None (cond (a && b) x y)
first_gone a true x y none = none refl
first_gone true false x y none = refl
first_gone false false x y none = refl

-- taking away a slot behind the first one leaves the first as it is
later_gone : (g a b : Bool) (x y z : Option Half) → z ≡ cond g None y → (g ≡ true → b ≡ false) → cond (a && b) x z ≡ cond g None (cond (a && b) x y)
later_gone true a b x y z gone apart = past a b x z None (apart refl) gone
later_gone false a b x y z gone apart = ap (cond (a && b) x) gone

-- slots that ascend do so without the first too
ascends_rest : (slot : Slot) (slots : List Slot) → Ascends (slot ∷ slots) → Ascends slots
ascends_rest slot slots ascends i j d below in_range = ascends (suc i) (suc j) d (omega (arith, below)) (omega (arith, in_range))

-- the first claim is below each one behind it
first_below : (slot : Slot) (slots : List Slot) → Ascends (slot ∷ slots) → (j : ℕ) (d : Slot) → j < length slots
    → claim_cmp slot.claim (get_or slots j d).claim ≡ Less
first_below slot slots ascends j d in_range = ascends zero (suc j) d (omega arith) (omega (arith, in_range))

-- a claim above another one isn't that one
equal_back : (a b : Claim) → claim_cmp a b ≡ Less → is_at (claim_cmp a) b ≡ false
equal_back a b less = ap is_eq less

module _ (names : List ℕ) where
  found_none : (slots : List Slot) (q : Claim) → AllByRecursion (λ (slot : Slot). is_at (claim_cmp q) slot.claim ≡ false) slots
      → find claim_cmp q (listed names slots) ≡ None
  found_none [] q none = refl
  found_none (slot ∷ slots) q none =
      first_or_rest (waits slot) q (slot.claim, half_in names slot) (listed names slots)
      ∙ past (waits slot) (is_at (claim_cmp q) slot.claim) (Some (half_in names slot)) (find claim_cmp q (listed names slots)) None none.0
      (found_none slots q none.1)

  -- where no slot has a claim, none waits there
  pub none_found : (slots : List Slot) (q : Claim) → HasNone slots q → find claim_cmp q (listed names slots) ≡ None
  none_found slots q none = found_none slots q (recursion_from_All (λ (slot : Slot). is_at (claim_cmp q) slot.claim ≡ false) slots none)

  -- behind a slot nothing waits at its claim
  none_behind : (slot : Slot) (slots : List Slot) → Ascends (slot ∷ slots) → find claim_cmp slot.claim (listed names slots) ≡ None
  none_behind slot slots ascends = none_found slots slot.claim (λ j d in_range. equal_back slot.claim (get_or slots j d).claim
      (first_below slot slots ascends j d in_range))

  -- what waits at the claim of a slot is what waits in the slot
  pub found_at : (slots : List Slot) (i : ℕ) (d : Slot) → Ascends slots → i < length slots
      → find claim_cmp (get_or slots i d).claim (listed names slots) ≡ cond (waits (get_or slots i d)) (Some (half_in names (get_or slots i d))) None
  found_at [] i d ascends in_range = absurd (omega (arith, in_range))
  found_at (slot ∷ slots) zero d ascends in_range =
      first_or_rest (waits slot) slot.claim (slot.claim, half_in names slot) (listed names slots)
      ∙ here (waits slot) (is_at (claim_cmp slot.claim) slot.claim) (Some (half_in names slot)) (find claim_cmp slot.claim (listed names slots))
      (claim_itself slot.claim) (none_behind slot slots ascends)
  found_at (slot ∷ slots) (suc i) d ascends in_range =
      let q = (get_or slots i d).claim in
      let behind : i < length slots = omega (arith, in_range) in
      first_or_rest (waits slot) q (slot.claim, half_in names slot) (listed names slots)
      ∙ past (waits slot) (is_at (claim_cmp q) slot.claim) (Some (half_in names slot)) (find claim_cmp q (listed names slots))
      (cond (waits (get_or slots i d)) (Some (half_in names (get_or slots i d))) None) (is_not_above slot.claim q (first_below slot slots ascends i d behind))
      (found_at slots i d (ascends_rest slot slots ascends) behind)

  -- a slot that waits no more takes away what waited at its claim
  pub gone_at : (slots : List Slot) (i : ℕ) (d gone : Slot) → Ascends slots → i < length slots → waits gone ≡ false → (q : Claim)
      → find claim_cmp q (listed names (set slots i gone)) ≡ cond (is_at (claim_cmp q) (get_or slots i d).claim) None (find claim_cmp q (listed names slots))
  gone_at [] i d gone ascends in_range none q = absurd (omega (arith, in_range))
  gone_at (slot ∷ slots) zero d gone ascends in_range none q =
      let rest = find claim_cmp q (listed names slots) in
      let at = is_at (claim_cmp q) slot.claim in
      first_or_rest (waits gone) q (gone.claim, half_in names gone) (listed names slots)
      ∙ ap (λ b. cond (b && is_at (claim_cmp q) gone.claim) (Some (half_in names gone)) rest) none
      ∙ first_gone (waits slot) at (Some (half_in names slot)) rest
      (λ is. ap (λ k. find claim_cmp k (listed names slots)) (same_claim q slot.claim is) ∙ none_behind slot slots ascends)
      ∙ ap (cond at None) (sym (first_or_rest (waits slot) q (slot.claim, half_in names slot) (listed names slots)))
  gone_at (slot ∷ slots) (suc i) d gone ascends in_range none q =
      let other = (get_or slots i d).claim in
      let behind : i < length slots = omega (arith, in_range) in
      first_or_rest (waits slot) q (slot.claim, half_in names slot) (listed names (set slots i gone))
      ∙ later_gone (is_at (claim_cmp q) other) (waits slot) (is_at (claim_cmp q) slot.claim) (Some (half_in names slot))
      (find claim_cmp q (listed names slots)) (find claim_cmp q (listed names (set slots i gone)))
      (gone_at slots i d gone (ascends_rest slot slots ascends) behind none q)
      (λ is. ap (λ k. is_at (claim_cmp k) slot.claim) (same_claim q other is) ∙ is_not_above slot.claim other (first_below slot slots ascends i d behind))
      ∙ ap (cond (is_at (claim_cmp q) other) None) (sym (first_or_rest (waits slot) q (slot.claim, half_in names slot) (listed names slots)))

  listed_by : (b : Bool) (e : Claim × Half) (es fs gs : List (Claim × Half)) → es ≡ fs ++ gs → cond b (e ∷ es) es ≡ cond b (e ∷ fs) fs ++ gs
  listed_by true e es fs gs same = ap (λ l. e ∷ l) same
  listed_by false e es fs gs same = same

  -- what waits in slots and in more behind them waits in one and then in the other
  pub listed_append : (slots more : List Slot) → listed names (slots ++ more) ≡ listed names slots ++ listed names more
  listed_append [] more = refl
  listed_append (slot ∷ slots) more =
      listed_by (waits slot) (slot.claim, half_in names slot) (listed names (slots ++ more)) (listed names slots) (listed names more) (listed_append slots more)

  kept_by : (b : Bool) (slot : Slot) (slots : List Slot) (es : List (Claim × Half)) → waits slot ≡ b → listed names slots ≡ es
      → listed names (cond b (slot ∷ slots) slots) ≡ cond b ((slot.claim, half_in names slot) ∷ es) es
  kept_by true slot slots es is same =
      ap (λ b. cond b ((slot.claim, half_in names slot) ∷ listed names slots) (listed names slots)) is ∙ ap (λ l. (slot.claim, half_in names slot) ∷ l) same
  kept_by false slot slots es is same = same

  -- what waits no more needs no slot
  pub listed_filter : (slots : List Slot) → listed names (filter waits slots) ≡ listed names slots
  listed_filter [] = refl
  listed_filter (slot ∷ slots) = kept_by (waits slot) slot (filter waits slots) (listed names slots) refl (listed_filter slots)

  grown_by : (more : List ℕ) (slots : List Slot) → AllByRecursion (IsInside names) slots → listed (names ++ more) slots ≡ listed names slots
  grown_by more [] inside = refl
  grown_by more (slot ∷ slots) inside =
      let same : take slot.len (drop slot.at (names ++ more)) ≡ take slot.len (drop slot.at names) =
      ap (take slot.len) (drop-append-le slot.at names more (omega (arith, inside.0)))
      ∙ take-append-le slot.len (drop slot.at names) more (omega (arith, inside.0, length-drop slot.at names)) in
      λ i. cond (waits slot) ((slot.claim, record { is_first = slot.is_first; name = same i }) ∷ grown_by more slots inside.1 i)
      (grown_by more slots inside.1 i)

  -- more bytes behind all others change nothing
  pub listed_grown : (more : List ℕ) (slots : List Slot) → All (IsInside names) slots → listed (names ++ more) slots ≡ listed names slots
  listed_grown more slots inside = grown_by more slots (recursion_from_All (IsInside names) slots inside)

  -- each name still lies among the bytes if more come behind these
  pub inside_grown : (more : List ℕ) (slots : List Slot) → All (IsInside names) slots → All (IsInside (names ++ more)) slots
  inside_grown more slots inside =
      let still : (slot : Slot) → IsInside names slot → IsInside (names ++ more) slot = λ slot is. omega (arith, is, length-append names more) in
      All-weaker (IsInside names) (IsInside (names ++ more)) still slots inside

-- slots with the same claims ascend alike
abbrev claims : List Slot → List Claim
claims slots = map (λ (slot : Slot). slot.claim) slots

-- slots with the same claims are as many
same_length : (xs ys : List Slot) → claims ys ≡ claims xs → length ys ≡ length xs
same_length xs ys same = sym (length-map ys (λ (slot : Slot). slot.claim)) ∙ ap length same ∙ length-map xs (λ (slot : Slot). slot.claim)

-- slots with the same claims have the same one at each place
claim_at : (xs ys : List Slot) (i : ℕ) (d : Slot) → claims ys ≡ claims xs → i < length xs → i < length ys → (get_or ys i d).claim ≡ (get_or xs i d).claim
claim_at xs ys i d same x y =
    sym (get_or-map (λ (slot : Slot). slot.claim) ys i d d.claim y) ∙ ap (λ l. get_or l i d.claim) same
    ∙ get_or-map (λ (slot : Slot). slot.claim) xs i d d.claim x

-- slots with the claims of some that ascend do so too
pub ascends_alike : (xs ys : List Slot) → claims ys ≡ claims xs → Ascends xs → Ascends ys
ascends_alike xs ys same ascends i j d below in_range =
    let long = same_length xs ys same in
    let first = claim_at xs ys i d same (omega (arith, long, below, in_range)) (omega (arith, below, in_range)) in
    let second = claim_at xs ys j d same (omega (arith, long, in_range)) in_range in
    (λ t. claim_cmp (first t) (second t)) ∙ ascends i j d below (omega (arith, long, in_range))

-- a slot in the place of one with its claim leaves the claims as they are
pub same_claims : (slots : List Slot) (i : ℕ) (d slot : Slot) → i < length slots → slot.claim ≡ (get_or slots i d).claim
    → claims (set slots i slot) ≡ claims slots
same_claims slots i d slot in_range same =
    map-set (λ (slot : Slot). slot.claim) slots i slot
    ∙ ap (set (claims slots) i) (same ∙ sym (get_or-map (λ (slot : Slot). slot.claim) slots i d d.claim in_range))
    ∙ set-get_or (claims slots) i d.claim

-- one more slot whose claim is above all others
pub ascends_push : (slots : List Slot) (slot : Slot) → Ascends slots → AllBelow slots slot.claim → Ascends (slots ++ slot ∷ [])
ascends_push slots slot ascends below i j d less in_range = by (cases_lt j (length slots))
  where
    by : (j < length slots) ⊎ (length slots ≤ j) → claim_cmp (get_or (slots ++ slot ∷ []) i d).claim (get_or (slots ++ slot ∷ []) j d).claim ≡ Less
    by (inl old) =
        let first = get_or_append_left slots (slot ∷ []) d i (omega (arith, less, old)) in
        let second = get_or_append_left slots (slot ∷ []) d j old in
        (λ t. claim_cmp (first t).claim (second t).claim) ∙ ascends i j d less old
    by (inr new) =
        let last : length slots ≡ j = omega (arith, new, in_range, length-append slots (slot ∷ [])) in
        let first = get_or_append_left slots (slot ∷ []) d i (omega (arith, less, last)) in
        let second = get_or_at slots slot [] d j last in
        (λ t. claim_cmp (first t).claim (second t).claim) ∙ below i d (omega (arith, less, last))

-- what a binary search finds
module _ (slots : List Slot) (k : Claim) (ascends : Ascends slots) where
  -- compared with a claim, slots rise from those below it to those above it
  rises : IsNonDecreasingBy (λ (slot : Slot). ordering_index (claim_cmp slot.claim k)) slots
  rises = searchable_from_sorted claims_total (λ (slot : Slot). slot.claim) slots k
      (λ i d from to. ap is_lt (above (get_or slots i d).claim (get_or slots (i + 1) d).claim (ascends i (i + 1) d (omega arith) to)))

  -- a slot that a binary search finds has the claim, and where it finds none, no slot has it
  pub searched : (r : Result ℕ ℕ) → IsSearchInRange r (length slots) → IsBinarySearchResult (λ (slot : Slot). claim_cmp slot.claim k) slots r
      → record { found : IfOk r (HasClaim slots k); absent : IfErr r (λ _. HasNone slots k) }
  searched (Ok at) in_range equal = record { found = record { in_range = in_range; is = equal }; absent = tt }
  searched (Err at) in_range parted = record {
    found = tt;
    absent = λ j d below. by j d below (cases_lt j at);
  }
    where
      by : (j : ℕ) (d : Slot) → j < length slots → (j < at) ⊎ (at ≤ j) → is_at (claim_cmp k) (get_or slots j d).claim ≡ false
      by j d below (inl less) = is_not_above (get_or slots j d).claim k ((parted rises).0 j d (omega arith) less)
      by j d below (inr more) = equal_back k (get_or slots j d).claim (claims_total.antisymm k (get_or slots j d).claim
          ∙ ap ordering_reverse ((parted rises).1 j d more below))

less : (o : Ordering) → is_lt o ≡ true → o ≡ Less
less Less is = refl
less Equal is = absurd (true≢false (sym is))
less Greater is = absurd (true≢false (sym is))

-- a claim above the last one is above all
pub all_below : (slots : List Slot) (k : Claim) (last : Slot) → Ascends slots → last ≡ get_or slots (length slots - 1) last
    → is_lt (claim_cmp last.claim k) ≡ true → AllBelow slots k
all_below slots k last ascends is is_below j d in_range = by (cases_lt j (length slots - 1))
  where
    below : claim_cmp last.claim k ≡ Less
    below = less (claim_cmp last.claim k) is_below

    place : (i : ℕ) → i ≡ length slots - 1 → (get_or slots i d).claim ≡ last.claim
    place i here =
        ap (λ n. (get_or slots n d).claim) here
        ∙ ap (λ (slot : Slot). slot.claim) (get_or_default slots (length slots - 1) d last (omega (arith, in_range)) ∙ sym is)

    by : (j < length slots - 1) ⊎ (length slots - 1 ≤ j) → claim_cmp (get_or slots j d).claim k ≡ Less
    by (inl less) =
        claims_total.trans (get_or slots j d).claim last.claim k
        (ap (claim_cmp (get_or slots j d).claim) (sym (place (length slots - 1) refl)) ∙ ascends j (length slots - 1) d less (omega (arith, in_range))) below
    by (inr more) = ap (λ q. claim_cmp q k) (place j (omega (arith, more, in_range))) ∙ below

-- nothing is taken away where nothing is
pub none_at : (b : Bool) (x : Option Half) → (b ≡ true → x ≡ None) → x ≡ cond b None x
none_at true x none = none refl
none_at false x none = refl

-- where nothing waits, nothing is taken away
pub nothing_removed : (es : List (Claim × Half)) (k : Claim) → find claim_cmp k es ≡ None → from_entries {R = claim_cmp} es ≡ remove (from_entries es) k
nothing_removed es k none = same_map claims_total one_claim _ _ (λ q.
    none_at (is_at (claim_cmp q) k) (get (from_entries es) q)
    (λ is. get-from_entries claims_total es q ∙ ap (λ p. find claim_cmp p es) (same_claim q k is) ∙ none)
    ∙ sym (get-remove claims_total (from_entries es) k q))

-- where a slot waits no more, what waited at its claim is taken away
module _ (names : List ℕ) (slots : List Slot) (laid : IsLaid names slots) where
  -- what a search for the claim of a slot finds is what waits in the slot
  pub found_claim : (k : Claim) (i : ℕ) (d : Slot) → HasClaim slots k i
      → find claim_cmp k (listed names slots) ≡ cond (waits (get_or slots i d)) (Some (half_in names (get_or slots i d))) None
  found_claim k i d has =
      ap (λ q. find claim_cmp q (listed names slots)) (sym (one_claim (get_or slots i d).claim k (has.is d)))
      ∙ found_at names slots i d laid.ascends has.in_range

  -- once a slot waits no more, what waits is what waited but for its claim
  pub let_go : (k : Claim) (i : ℕ) (d gone : Slot) → claim_cmp (get_or slots i d).claim k ≡ Equal → i < length slots → waits gone ≡ false
      → from_entries {R = claim_cmp} (listed names (set slots i gone)) ≡ remove (from_entries (listed names slots)) k
  let_go k i d gone is in_range none = same_map claims_total one_claim _ _ (λ q.
      get-from_entries claims_total (listed names (set slots i gone)) q ∙ gone_at names slots i d gone laid.ascends in_range none q
      ∙ ap (λ p. cond (is_at (claim_cmp q) p) None (find claim_cmp q (listed names slots))) (one_claim (get_or slots i d).claim k is)
      ∙ sym (get-remove claims_total (from_entries (listed names slots)) k q
      ∙ ap (cond (is_at (claim_cmp q) k) None) (get-from_entries claims_total (listed names slots) q)))

  -- slots stay laid out as one takes the place of another of its claim, its name among the bytes
  pub laid_still : (i : ℕ) (d slot : Slot) → i < length slots → slot.claim ≡ (get_or slots i d).claim → IsInside names slot → IsLaid names (set slots i slot)
  laid_still i d slot in_range same inside = record {
    ascends = ascends_alike slots (set slots i slot) (same_claims slots i d slot in_range same) laid.ascends;
    inside = All-set (IsInside names) slots i slot inside laid.inside;
    short = omega (arith, laid.short, length-set slots i slot);
    few = omega (arith, laid.few, length-set slots i slot);
  }

  -- one more slot, and its name behind all others
  module _ (k : Claim) (first : Bool) (name : List ℕ) (slot : Slot) (is : slot ≡ record { claim = k; is_first = first; at = length names; len = length name })
      (next : IsNext slots k (length name)) where
    -- slots stay laid out with one more and its name behind all
    pub laid_more : IsLaid (names ++ name) (slots ++ slot ∷ [])
    laid_more = record {
      ascends = ascends_push slots slot laid.ascends (subst (AllBelow slots) (sym (ap (λ (s : Slot). s.claim) is)) next.above);
      inside = All-push (IsInside (names ++ name)) slots slot (inside_grown names name slots laid.inside)
          (omega (arith, ap (λ (s : Slot). s.at) is, ap (λ (s : Slot). s.len) is, length-append names name));
      short = omega (arith, laid.short, next.short, length-append names name, length-append slots (slot ∷ []));
      few = omega (arith, next.few, length-append slots (slot ∷ []));
    }

    -- what waits with one more slot is what waited and the new name
    pub waits_more : from_entries {R = claim_cmp} (listed (names ++ name) (slots ++ slot ∷ []))
        ≡ insert (from_entries (listed names slots)) k (record { is_first = first; name = name })
    waits_more =
        let some : not (length name == 0) ≡ true = ap not (ne_eqb (length name) 0 (λ none. absurd (omega (arith, none, next.some)))) in
        let text : take (length name) (drop (length names) (names ++ name)) ≡ name = ap (take (length name)) (drop_at names name (length names) refl)
        ∙ take_all (length name) name (omega arith) in
        let none = none_found names slots k (λ j d in_range. is_not_above (get_or slots j d).claim k (next.above j d in_range)) in
        ap from_entries
        (listed_append (names ++ name) slots (slot ∷ [])
        ∙ (λ i. listed_grown names name slots laid.inside i ++ listed (names ++ name) (is i ∷ []))
        ∙ (λ i. listed names slots ++ cond (some i) ((k, record { is_first = first; name = text i }) ∷ []) []))
        ∙ from_entries_push claims_total one_claim (listed names slots) k (record { is_first = first; name = name }) none

-- the name of one more slot is moved behind those that are kept
module _ (names kept : List ℕ) (old slots : List Slot) (i : ℕ) (d slot : Slot) (in_range : i < length slots) (rest : drop i slots ≡ drop i old)
    (inside : IsInside names (get_or slots i d))
    (moved : slot ≡ record { claim = (get_or slots i d).claim; is_first = (get_or slots i d).is_first; at = length kept; len = (get_or slots i d).len }) where
  -- the slot whose name is moved
  abbrev this : Slot
  this = get_or slots i d

  -- the name that is moved
  abbrev name : List ℕ
  name = take this.len (drop this.at names)

  -- the name that is moved is as long as its slot says
  long : length name ≡ this.len
  long = length-take-le this.len (drop this.at names) (omega (arith, inside, length-drop this.at names))

  -- what waits in a slot is the same after its name was moved
  one_moved : listed (kept ++ name) (slot ∷ []) ≡ listed names (this ∷ [])
  one_moved =
      let text : take this.len (drop (length kept) (kept ++ name)) ≡ name = ap (take this.len) (drop_at kept name (length kept) refl)
      ∙ take_all this.len name (omega (arith, long)) in
      ap (λ (s : Slot). listed (kept ++ name) (s ∷ [])) moved ∙ (λ t. cond (waits this)
      ((this.claim, record { is_first = this.is_first; name = text t }) ∷ []) [])

  -- what waits in slots that have moved and in those that have not stays the same as one more is moved
  pub moved_more : (all : List (Claim × Half)) → listed kept (take i slots) ++ listed names (drop i old) ≡ all → All (IsInside kept) (take i slots)
      → listed (kept ++ name) (take (i + 1) (set slots i slot)) ++ listed names (drop (i + 1) old) ≡ all
  moved_more all before within =
      ap (λ l. listed (kept ++ name) l ++ listed names (drop (i + 1) old)) (take_more_set slots i slot in_range)
      ∙ ap (λ l. l ++ listed names (drop (i + 1) old)) (listed_append (kept ++ name) (take i slots) (slot ∷ [])
      ∙ (λ t. listed_grown kept name (take i slots) within t ++ one_moved t))
      ∙ append_assoc (listed kept (take i slots)) (listed names (this ∷ [])) (listed names (drop (i + 1) old))
      ∙ ap (λ l. listed kept (take i slots) ++ l) (sym (listed_append names (this ∷ []) (drop (i + 1) old))
      ∙ ap (listed names) (ap (λ l. this ∷ l) (sym (drop_more_same slots old i rest)) ∙ sym (drop_more slots i d in_range) ∙ rest))
      ∙ before

  -- the names of slots that have moved lie among the bytes that are kept, also with one more
  pub inside_more : All (IsInside kept) (take i slots) → All (IsInside (kept ++ name)) (take (i + 1) (set slots i slot))
  inside_more within =
      All-same (IsInside (kept ++ name)) (take (i + 1) (set slots i slot)) (take i slots ++ slot ∷ []) (take_more_set slots i slot in_range)
      (All-push (IsInside (kept ++ name)) (take i slots) slot (inside_grown kept name (take i slots) within)
      (omega (arith, ap (λ (s : Slot). s.at) moved, ap (λ (s : Slot). s.len) moved, long, length-append kept name)))

  -- the claims stay as a name is moved
  pub claims_more : claims slots ≡ claims old → claims (set slots i slot) ≡ claims old
  claims_more same = same_claims slots i d slot in_range (ap (λ (s : Slot). s.claim) moved) ∙ same

  -- the slots behind those that have moved are as they were
  pub rest_more : drop (i + 1) (set slots i slot) ≡ drop (i + 1) old
  rest_more = drop-set-lt (i + 1) slots i slot (omega arith) ∙ drop_more_same slots old i rest

-- the slot at the front of those that have not moved
pub inside_at : (names : List ℕ) (old slots : List Slot) (i : ℕ) (d : Slot) → claims slots ≡ claims old → drop i slots ≡ drop i old → i < length slots
    → All (IsInside names) old → IsInside names (get_or slots i d)
inside_at names old slots i d same rest in_range inside =
    let within : i < length old = omega (arith, in_range, same_length old slots same) in
    let here : get_or old i d ≡ get_or slots i d = ap (λ l. get_or l 0 d) (sym (drop_more old i d within) ∙ sym rest ∙ drop_more slots i d in_range) in
    subst (IsInside names) here (All-get_or (IsInside names) old i d within inside)

-- all have moved
pub all_moved : (names kept : List ℕ) (old slots : List Slot) → claims slots ≡ claims old → Ascends old → All (IsInside kept) (take (length slots) slots)
    → length kept ≤ 255 * length slots → length old ≤ 16777216 → IsLaid kept slots
all_moved names kept old slots same ascends inside short few = record {
  ascends = ascends_alike old slots same ascends;
  inside = All-same (IsInside kept) slots (take (length slots) slots) (sym (take_all (length slots) slots (omega arith))) inside;
  short = short;
  few = omega (arith, few, same_length old slots same);
}

-- the slots whose names wait are laid out as all were
pub kept_ascend : (slots : List Slot) → Ascends slots → Ascends (filter waits slots)
kept_ascend slots ascends = AllPairs-filter (λ (a b : Slot). claim_cmp a.claim b.claim ≡ Less) waits slots ascends

-- the slots whose names wait are as few as all may be
pub kept_few : (slots : List Slot) → length slots ≤ 16777216 → length (filter waits slots) ≤ 16777216
kept_few slots few = omega (arith, few, length-filter waits slots, count_by-le-length waits slots)

-- what waits at a claim is what a look-up in the list finds
pub found_in : (names : List ℕ) (slots : List Slot) (k : Claim) (m : FinMap claim_cmp Half) → from_entries (listed names slots) ≡ m
    → find claim_cmp k (listed names slots) ≡ get m k
found_in names slots k m is = sym (get-from_entries claims_total (listed names slots) k) ∙ ap (λ m. get m k) is

-- where no slot's name waits, the list is empty
pub all_gone : (names other : List ℕ) (slots kept : List Slot) → kept ≡ filter waits slots → length kept ≡ 0 → listed other kept ≡ listed names slots
all_gone names other slots kept is none = by kept none is
  where
    by : (l : List Slot) → length l ≡ 0 → l ≡ filter waits slots → listed other l ≡ listed names slots
    by [] none is = ap (listed names) is ∙ listed_filter names slots
    by (slot ∷ l) none is = absurd (omega (arith, none))

module _ (m : FinMap claim_cmp Half) (k : Claim) where
  -- a map that something was put in isn't empty
  some_by : (b : Bool) → contains_key m k ≡ b → (cond b (len m) (len m + 1) == 0) ≡ false
  some_by true is = ne_eqb (len m) 0 (λ none. absurd (true≢false (sym is ∙ ap (λ x. contains_key x k) (empty_of_len m none)
      ∙ ap is_some (get-empty claim_cmp k))))
  some_by false is = ne_eqb (len m + 1) 0 (λ none. absurd (omega (arith, none)))

-- a map of no entries is empty, and no other
pub none_in : (es : List (Claim × Half)) → (len (from_entries {R = claim_cmp} es) == 0) ≡ (length es == 0)
none_in [] = ap (λ n. n == 0) (len-empty claim_cmp Half)
none_in (e ∷ es) =
    ap (λ n. n == 0) (len-insert claims_total (from_entries es) e.0 e.1) ∙ some_by (from_entries es) e.0 (contains_key (from_entries es) e.0) refl
    ∙ sym (ne_eqb (length (e ∷ es)) 0 (λ none. absurd (omega (arith, none))))

none_by : (b : Bool) (e : Claim × Half) (es : List (Claim × Half)) (a : Bool) → (length es == 0) ≡ not a → (length (cond b (e ∷ es) es) == 0) ≡ not (b || a)
none_by true e es a is = ne_eqb (length (e ∷ es)) 0 (λ none. absurd (omega (arith, none)))
none_by false e es a is = is

-- the list of what waits is empty just where no slot's name waits
none_listed : (names : List ℕ) (slots : List Slot) → (length (listed names slots) == 0) ≡ not (list_any waits slots)
none_listed names [] = refl
none_listed names (slot ∷ slots) = none_by (waits slot) (slot.claim, half_in names slot) (listed names slots) (list_any waits slots) (none_listed names slots)

-- the map of what waits is empty just where no slot's name waits
pub nothing_waits : (names : List ℕ) (slots : List Slot) → (len (from_entries {R = claim_cmp} (listed names slots)) == 0) ≡ not (list_any waits slots)
nothing_waits names slots = none_in (listed names slots) ∙ none_listed names slots
