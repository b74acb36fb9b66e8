-- Several loans in hand at once.
use Rattle.std.proofs.Common.{◌≡◌, ℕ, ◌+◌, ◌<◌, cond, ltb, List, [], ◌∷◌, ◌++◌, length, get_or, refl, sym, ap, ◌∙◌, subst, inl, inr, arith}
use Rattle.std.specs.List.{remove}
use Rattle.std.proofs.lemmas.Bool.{cases_lt, cond_below, cond_above}
use Rattle.std.proofs.lemmas.Bool.Decides.{nat_tests}
use Rattle.std.proofs.lemmas.List.{get_or_append_left, get_or_push, get_or_read, length_push}
use Rattle.std.proofs.lemmas.List.Edits.{length-remove, get_or-remove_below, get_or-remove_above}
use Rattle.btr_pool.specs.Slots.{Slots, IsLive, IsFree, with_lent, with_free, with_bytes}
use Rattle.btr_pool.proofs.Loans.{apart, live_when_lent, live_after_take, live_after_give, live_after_write}

-- loans in hand: all are live, and of slots that differ
pub record AreLive (pool : Slots) (loans : List ℕ) : Type 0 where
  pub live : (i : ℕ) → i < length loans → IsLive pool (get_or loans i 0)
  pub distinct : (i j : ℕ) → i < length loans → j < length loans → get_or loans i 0 ≡ get_or loans j 0 → i ≡ j

-- no loans in hand are all live
pub are_live_none : (pool : Slots) → AreLive pool []
are_live_none pool = record { live = λ i lt. absurd (omega (arith, lt)); distinct = λ i j lt _ _. absurd (omega (arith, lt)) }

-- one more was taken
pub are_live_taken : (pool : Slots) (loans : List ℕ) (k : ℕ) → AreLive pool loans → IsFree pool k → AreLive (with_lent pool k) (loans ++ k ∷ [])
are_live_taken pool loans k are free = record {
  live = λ i lt. elim (cases_lt i (length loans)) [
    | inl old ↦ subst (IsLive (with_lent pool k)) (sym (get_or_append_left loans (k ∷ []) 0 i old)) (live_after_take pool (get_or loans i 0) k (are.live i old))
    | inr new ↦ subst (IsLive (with_lent pool k)) (sym (get_or_push loans k 0 i (omega (arith, lt, new, length_push loans k)))) (live_when_lent pool k free)
  ];
  distinct = λ i j lt_i lt_j same. elim (cases_lt i (length loans)) [
    | inl old_i ↦ elim (cases_lt j (length loans)) [
      | inl old_j ↦ are.distinct i j old_i old_j (sym (get_or_append_left loans (k ∷ []) 0 i old_i) ∙ same ∙ get_or_append_left loans (k ∷ []) 0 j old_j)
      | inr new_j ↦ absurd (apart pool (get_or loans i 0) k (are.live i old_i) free
          (sym (get_or_append_left loans (k ∷ []) 0 i old_i) ∙ same ∙ get_or_push loans k 0 j (omega (arith, lt_j, new_j, length_push loans k))))
    ]
    | inr new_i ↦ elim (cases_lt j (length loans)) [
      | inl old_j ↦ absurd (apart pool (get_or loans j 0) k (are.live j old_j) free
          (sym (get_or_append_left loans (k ∷ []) 0 j old_j) ∙ sym same ∙ get_or_push loans k 0 i (omega (arith, lt_i, new_i, length_push loans k))))
      | inr new_j ↦ omega (arith, lt_i, lt_j, new_i, new_j, length_push loans k)
    ]
  ];
}

-- one was written
pub are_live_written : (pool : Slots) (loans : List ℕ) (k : ℕ) (written : List ℕ) → AreLive pool loans → AreLive (with_bytes pool k written) loans
are_live_written pool loans k written are =
    record { live = λ i lt. live_after_write pool (get_or loans i 0) k written (are.live i lt); distinct = are.distinct }

-- one was given back
pub are_live_given : (pool : Slots) (loans : List ℕ) (i : ℕ) → AreLive pool loans → i < length loans
    → AreLive (with_free pool (get_or loans i 0)) (remove loans i)
are_live_given pool loans i are there = record {
  live = λ j lt. elim (cases_lt j i) [
    | inl below ↦ subst (IsLive (with_free pool (get_or loans i 0))) (sym (get_or-remove_below loans i 0 j below there))
        (live_after_give pool (get_or loans j 0) (get_or loans i 0)
        (λ same. absurd (omega (arith, below, are.distinct j i (omega (arith, below, there)) there same))) (are.live j (omega (arith, below, there))))
    | inr above ↦ subst (IsLive (with_free pool (get_or loans i 0))) (sym (get_or-remove_above loans i 0 j above there))
        (live_after_give pool (get_or loans (j + 1) 0) (get_or loans i 0)
        (λ same. absurd (omega (arith, above, are.distinct (j + 1) i (after j lt) there same))) (are.live (j + 1) (after j lt)))
  ];
  distinct = λ j h lt_j lt_h same.
      let place : ℕ → ℕ = λ n. cond (ltb n i) n (n + 1) in
      let at_j : get_or (remove loans i) j 0 ≡ get_or loans (place j) 0 = moved j in
      let at_h : get_or (remove loans i) h 0 ≡ get_or loans (place h) 0 = moved h in
      one_place j h (are.distinct (place j) (place h) (within j lt_j) (within h lt_h) (sym at_j ∙ same ∙ at_h));
}
  where
    -- behind a loan that was given back the others have moved one place down
    after : (j : ℕ) → j < length (remove loans i) → j + 1 < length loans
    after j lt = omega (arith, lt, length-remove loans i there)

    -- the loans that are left are the old ones, from the one given back on by one place further
    moved : (j : ℕ) → get_or (remove loans i) j 0 ≡ get_or loans (cond (ltb j i) j (j + 1)) 0
    moved j = elim (cases_lt j i) [
      | inl below ↦ get_or-remove_below loans i 0 j below there ∙ ap (λ n. get_or loans n 0) (cond_below j i j (j + 1) below)
      | inr above ↦ get_or-remove_above loans i 0 j above there ∙ ap (λ n. get_or loans n 0) (cond_above j i j (j + 1) (j + 1) above refl)
    ]

    -- the old place of a loan that is left is a place of the old ones
    within : (j : ℕ) → j < length (remove loans i) → cond (ltb j i) j (j + 1) < length loans
    within j lt = elim (cases_lt j i) [
      | inl below ↦ subst (λ n. n < length loans) (cond_below j i j (j + 1) below) (omega (arith, below, there))
      | inr above ↦ subst (λ n. n < length loans) (cond_above j i j (j + 1) (j + 1) above refl) (after j lt)
    ]

    -- loans that are left and have one old place are one
    one_place : (j h : ℕ) → cond (ltb j i) j (j + 1) ≡ cond (ltb h i) h (h + 1) → j ≡ h
    one_place j h e = grind (arith, nat_tests)

-- loans in hand of a pool whose slots have this size
pub record InHand (pool : Slots) (size : ℕ) (loans : List ℕ) : Type 0 where
  pub size_is : pool.size ≡ size
  pub are : AreLive pool loans

-- one more was taken and written
pub in_hand_taken : (pool taken written : Slots) (size k : ℕ) (bytes : List ℕ) (loans more : List ℕ) → InHand pool size loans → IsFree pool k → taken
    ≡ with_lent pool k → written ≡ with_bytes taken k bytes → more ≡ loans ++ k ∷ [] → InHand written size more
in_hand_taken pool taken written size k bytes loans more hand free is_taken is_written is_more =
    let is : written ≡ with_bytes (with_lent pool k) k bytes = is_written ∙ ap (λ p. with_bytes p k bytes) is_taken in
    let are : AreLive (with_bytes (with_lent pool k) k bytes) (loans ++ k ∷ []) =
    are_live_written (with_lent pool k) (loans ++ k ∷ []) k bytes (are_live_taken pool loans k hand.are free) in
    record {
      size_is = ap (λ p. p.size) is ∙ hand.size_is;
      are = subst (λ p. AreLive p more) (sym is) (subst (AreLive (with_bytes (with_lent pool k) k bytes)) (sym is_more) are);
    }

-- any of them is live
pub in_hand_live : (pool : Slots) (size i loan : ℕ) (loans : List ℕ) → InHand pool size loans → i < length loans → loan ≡ get_or loans i loan → IsLive pool loan
in_hand_live pool size i loan loans hand there read = subst (IsLive pool) (sym (get_or_read loans i loan there read 0)) (hand.are.live i there)

-- one was given back
pub in_hand_given : (pool given : Slots) (size i loan : ℕ) (loans fewer : List ℕ) → InHand pool size loans → i < length loans → loan
    ≡ get_or loans i loan → given ≡ with_free pool loan → fewer ≡ remove loans i → InHand given size fewer
in_hand_given pool given size i loan loans fewer hand there read is_given is_fewer =
    let is : given ≡ with_free pool (get_or loans i 0) = is_given ∙ ap (with_free pool) (get_or_read loans i loan there read 0) in
    record {
      size_is = ap (λ p. p.size) is ∙ hand.size_is;
      are = subst (λ p. AreLive p fewer) (sym is) (subst (AreLive (with_free pool (get_or loans i 0))) (sym is_fewer)
          (are_live_given pool loans i hand.are there));
    }
