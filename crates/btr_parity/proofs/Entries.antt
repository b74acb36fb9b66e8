-- What stands in the tables.
use Rattle.std.proofs.Common.{◌≡◌, ℕ, zero, suc, ◌+◌, ◌<◌, Bool, true, false, cond, eqb, ltb, List, [], ◌∷◌, length, get_or, refl, sym, ap, ◌∙◌, ⊎_elim, arith}
use Rattle.std.proofs.lemmas.Bool.{eqb-true, eq-eqb, cases_lt}
use borrow.Author.Tests.{ltb-true}
use Rattle.btr_parity.specs.Field.{multiplied, reduced, product, power}
use Rattle.btr_parity.specs.declared.tables.TheConstants.{POWERS, INVERSES}
use Rattle.btr_parity.proofs.Additive.{upto-both}

-- the first entry is b, and each other is twice the one before it
abbrev doubling : ℕ → List ℕ → Bool
doubling b [] = true
doubling b (x ∷ xs) = cond (eqb x b) (doubling (product 2 b) xs) false

-- where the first entry is 2^k and each other is twice the one before it, entry i is 2^(k + i)
power_from : (k : ℕ) (xs : List ℕ) (i : ℕ) → doubling (power k) xs ≡ true → i < length xs → get_or xs i 0 ≡ power (k + i)
unfolding power
power_from k [] i e h = absurd (omega arith)
power_from k (x ∷ xs) zero e h =
    let same : k ≡ k + 0 = omega arith in
    eqb-true x (power k) (upto-both _ _ e).0 ∙ ap power same
power_from k (x ∷ xs) (suc i) e h =
    let same : suc k + i ≡ k + suc i = omega arith in
    power_from (suc k) xs i (upto-both _ _ e).1 (omega arith) ∙ ap power same

-- in the table of powers each entry is twice the one before it
all_doubling : doubling 1 POWERS ≡ true
unfolding product multiplied reduced
all_doubling = refl

-- entry i of the table of powers is 2^i
pub get_or-POWERS : (i : ℕ) → i < 63 → get_or POWERS i 0 ≡ power i
unfolding power
get_or-POWERS i h =
    let same : 0 + i ≡ i = omega arith in
    power_from 0 POWERS i all_doubling h ∙ ap power same

-- each entry times its index is 1
abbrev inverting : ℕ → List ℕ → Bool
inverting b [] = true
inverting b (x ∷ xs) = cond (eqb (product b x) 1) (inverting (b + 1) xs) false

-- where each entry times its index, counted from k on, is 1, entry i times k + i is 1
inverse_from : (k : ℕ) (xs : List ℕ) (i : ℕ) → inverting k xs ≡ true → i < length xs → product (k + i) (get_or xs i 0) ≡ 1
inverse_from k [] i e h = absurd (omega arith)
inverse_from k (x ∷ xs) zero e h =
    let same : k + 0 ≡ k = omega arith in
    ap (λ b. product b x) same ∙ eqb-true (product k x) 1 (upto-both _ _ e).0
inverse_from k (x ∷ xs) (suc i) e h =
    let same : k + suc i ≡ k + 1 + i = omega arith in
    ap (λ b. product b (get_or xs i 0)) same ∙ inverse_from (k + 1) xs i (upto-both _ _ e).1 (omega arith)

-- the list without its first entry
abbrev behind_first : List ℕ → List ℕ
behind_first [] = []
behind_first (x ∷ xs) = xs

-- in the table of inverses each entry but the first times its index is 1
all_inverting : inverting 1 (behind_first INVERSES) ≡ true
unfolding product multiplied reduced
all_inverting = refl

-- a byte that is not 0 times its entry in the table of inverses is 1
pub product-INVERSES : (b : ℕ) → 0 < b → b < 256 → product b (get_or INVERSES b 0) ≡ 1
product-INVERSES zero h k = absurd (omega arith)
product-INVERSES (suc b) h k =
    let same : suc b ≡ 1 + b = omega arith in
    ap (λ c. product c (get_or (behind_first INVERSES) b 0)) same ∙ inverse_from 1 (behind_first INVERSES) b all_inverting (omega arith)

-- each entry is a byte
abbrev bytes : List ℕ → Bool
bytes [] = true
bytes (x ∷ xs) = cond (ltb x 256) (bytes xs) false

-- where all entries are bytes, so is the one at each place, and the 0 past the end
byte_at : (xs : List ℕ) (i : ℕ) → bytes xs ≡ true → get_or xs i 0 < 256
byte_at [] i e = omega arith
byte_at (x ∷ xs) zero e = ltb-true x 256 (upto-both _ _ e).0
byte_at (x ∷ xs) (suc i) e = byte_at xs i (upto-both _ _ e).1

-- each entry of the table of inverses is a byte
pub inverse-lt : (b : ℕ) → get_or INVERSES b 0 < 256
inverse-lt b = byte_at INVERSES b refl

-- ---- the powers differ, and none is 0

-- x isn't in the list
abbrev absent : ℕ → List ℕ → Bool
absent x [] = true
absent x (y ∷ ys) = cond (eqb x y) false (absent x ys)

-- no number stands twice in the list
abbrev apart : List ℕ → Bool
apart [] = true
apart (x ∷ xs) = cond (absent x xs) (apart xs) false

-- where neither of two tests may stop, the first fails and the second passes
neither : (b c : Bool) → cond b false c ≡ true → (b ≡ false) × (c ≡ true)
neither true c e = absurd (cc (e))
neither false c e = (refl, e)

-- a number that is not in a list differs from each of its entries
absent_at : (x : ℕ) (ys : List ℕ) (k : ℕ) → absent x ys ≡ true → k < length ys → x ≡ get_or ys k 0 → ⊥
absent_at x [] k e h same = absurd (omega arith)
absent_at x (y ∷ ys) zero e h same =
    let here : eqb x y ≡ true = eq-eqb x y same in
    let there : eqb x y ≡ false = (neither _ _ e).0 in
    cc
absent_at x (y ∷ ys) (suc k) e h same = absent_at x ys k (neither _ _ e).1 (omega arith) same

-- in a list where no number stands twice, entries at two places differ
apart_at : (xs : List ℕ) (i j : ℕ) → apart xs ≡ true → i < j → j < length xs → get_or xs i 0 ≡ get_or xs j 0 → ⊥
apart_at [] i j e lt h same = absurd (omega arith)
apart_at (x ∷ xs) i zero e lt h same = absurd (omega arith)
apart_at (x ∷ xs) zero (suc j) e lt h same = absent_at x xs j (upto-both _ _ e).0 (omega arith) same
apart_at (x ∷ xs) (suc i) (suc j) e lt h same = apart_at xs i j (upto-both _ _ e).1 (omega arith) (omega arith) same

-- each of 2^0 to 2^62 differs from the later ones
rising : (i j : ℕ) → i < j → j < 63 → power i ≡ power j → ⊥
rising i j lt h same = apart_at POWERS i j refl lt h (get_or-POWERS i (omega arith) ∙ same ∙ sym (get_or-POWERS j h))

-- different powers among 2^0 to 2^62 differ
pub powers_differ : (i j : ℕ) → i < 63 → j < 63 → (i ≡ j → ⊥) → power i ≡ power j → ⊥
powers_differ i j h k ne same = ⊎_elim (λ lt. rising i j lt k same) (λ le. rising j i (omega arith) h (sym same)) (cases_lt i j)

-- none of 2^0 to 2^62 is 0
pub power_pos : (i : ℕ) → i < 63 → 0 < power i
power_pos i h =
    let ne : power i ≡ 0 → ⊥ = λ e. absent_at 0 POWERS i refl h (sym (get_or-POWERS i h ∙ e)) in
    omega arith
