-- Lists that are made of the entries of a table.
use Rattle.std.proofs.Common.{◌≡◌, ℕ, zero, suc, ◌+◌, ◌-◌, ◌<◌, ◌≤◌, true, false, List, [], ◌∷◌, map, drop, length, get_or, refl, sym, ap, arith, subst, ⊎_elim}
use Rattle.std.specs.List.{range_with_len}
use Rattle.std.proofs.lemmas.List.{get_or-drop, drop-drop}
use Rattle.std.proofs.lemmas.Bool.{lt-ltb, le-ltb, and_from, and_left, and_right, and_parts, ltb-true, cases_eq}
use Rattle.btr_base.specs.declared.key.Key.{Key}
use Rattle.btr_base.specs.Field.{number_at}
use Rattle.btr_base.specs.Key.{key_at, key_number, key_lt}
use Rattle.btr_node.specs.Block.{is_before, ascends}

-- a key at an offset is the first key behind that many bytes
pub key_at-drop : (off : ℕ) (block : List ℕ) → key_at 0 (drop off block) ≡ key_at off block
key_at-drop off block =
    let kind = get_or-drop off block 8 0 in
    let rest = drop-drop 9 off block in
    λ i. record { objectid = number_at 8 off block; kind = kind i; offset = number_at 8 0 (rest i) }

-- the first of a range of numbers, and the others
pub range_first : (i n : ℕ) → i < n → range_with_len i (n - i) ≡ i ∷ range_with_len (i + 1) (n - (i + 1))
range_first i n more =
    let steps : n - i ≡ suc (n - (i + 1)) = omega arith in
    ap (range_with_len i) steps

-- keys ascend where each stands before the next
pub ascends-all : (f : ℕ → Key) (a n : ℕ) → ((k : ℕ) → a ≤ k → k + 1 < a + n → key_number (f k) < key_number (f (k + 1)))
    → ascends (map f (range_with_len a n)) ≡ true
ascends-all f a zero each = refl
ascends-all f a (suc zero) each = refl
ascends-all f a (suc (suc n)) each =
    and_from _ _
    (lt-ltb _ _ (each a (omega arith) (omega arith)))
    (ascends-all f (a + 1) (suc n) (λ k low high. each k (omega arith) (omega arith)))

-- keys do not ascend where one does not stand before the next
pub ascends-not : (f : ℕ → Key) (a n k : ℕ) → a ≤ k → k + 1 < a + n → key_number (f (k + 1)) ≤ key_number (f k) → ascends (map f (range_with_len a n)) ≡ false
ascends-not f a zero k low high not = absurd (omega arith)
ascends-not f a (suc zero) k low high not = absurd (omega arith)
ascends-not f a (suc (suc n)) k low high not =
    ⊎_elim
    (λ (same : a ≡ k). and_left _ _ (le-ltb _ _ (subst (λ (j : ℕ). key_number (f (j + 1)) ≤ key_number (f j)) (sym same) not)))
    (λ (other : a ≡ k → ⊥). and_right _ _ (ascends-not f (a + 1) (suc n) k (omega arith) (omega arith) not))
    (cases_eq a k)

-- in keys that ascend each stands before all behind it
pub ascends-order : (f : ℕ → Key) (a n : ℕ) → ascends (map f (range_with_len a n)) ≡ true → (i j : ℕ) → a ≤ i → i < j → j < a + n
    → key_number (f i) < key_number (f j)
ascends-order f a zero up i j low less high = absurd (omega arith)
ascends-order f a (suc zero) up i j low less high = absurd (omega arith)
ascends-order f a (suc (suc n)) up i j low less high =
    let parts = and_parts (key_lt (f a) (f (a + 1))) (ascends (map f (range_with_len (a + 1) (suc n)))) up in
    let step : key_number (f a) < key_number (f (a + 1)) = ltb-true _ _ parts.0 in
    let rest : (i j : ℕ) → a + 1 ≤ i → i < j → j < (a + 1) + suc n → key_number (f i) < key_number (f j) = ascends-order f (a + 1) (suc n) parts.1 in
    ⊎_elim
    (λ (same : a ≡ i).
    ⊎_elim
    (λ (next : a + 1 ≡ j). subst (λ (k : ℕ). key_number (f k) < key_number (f j)) same (subst (λ (k : ℕ). key_number (f a) < key_number (f k)) next step))
    (λ (far : a + 1 ≡ j → ⊥). subst (λ (k : ℕ). key_number (f k) < key_number (f j)) same
    (omega (arith, step, rest (a + 1) j (omega arith) (omega arith) (omega arith))))
    (cases_eq (a + 1) j))
    (λ (other : a ≡ i → ⊥). rest i j (omega arith) less (omega arith))
    (cases_eq a i)

-- the first of keys that ascend stands before the others
first_before : (key : Key) (keys : List Key) (d : Key) → ascends (key ∷ keys) ≡ true → (j : ℕ) → j < length keys → key_number key < key_number (get_or keys j d)
first_before key [] d up j within = absurd (omega arith)
first_before key (next ∷ keys) d up zero within = ltb-true _ _ (and_parts (key_lt key next) (ascends (next ∷ keys)) up).0
first_before key (next ∷ keys) d up (suc j) within =
    let parts = and_parts (key_lt key next) (ascends (next ∷ keys)) up in
    let step : key_number key < key_number next = ltb-true _ _ parts.0 in
    omega (arith, step, first_before next keys d parts.1 j (omega arith))

-- each of them stands before all behind it
pub ascends-pairs : (keys : List Key) → ascends keys ≡ true → (i j : ℕ) (d : Key) → i < j → j < length keys
    → key_number (get_or keys i d) < key_number (get_or keys j d)
ascends-pairs [] up i j d less within = absurd (omega arith)
ascends-pairs (key ∷ keys) up i zero d less within = absurd (omega arith)
ascends-pairs (key ∷ keys) up zero (suc j) d less within = first_before key keys d up j (omega arith)
ascends-pairs (key ∷ keys) up (suc i) (suc j) d less within = ascends-pairs keys (and_parts (is_before key keys) (ascends keys) up).1 i j d
    (omega arith) (omega arith)
