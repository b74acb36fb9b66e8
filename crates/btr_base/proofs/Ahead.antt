-- Bytes that are dropped and sent ahead.
use Rattle.std.proofs.Common.{◌≡◌, ℕ, zero, suc, ◌+◌, ◌*◌, ◌^◌, ◌<◌, ◌≤◌, inl, inr, Bool, true, false, cond, ltb, List, [], ◌∷◌, refl, sym, ap, ◌∙◌, arith}
use Rattle.std.specs.Int.Bits.{bit_xor, xor_assoc, xor_self, xor_zero_l, xor_zero_r}
use Rattle.std.proofs.lemmas.Bool.{cases_lt}
use Rattle.std.proofs.lemmas.Bool.Decides.{nat_tests}
use Rattle.btr_base.specs.Crc.{shifted_by}
use Rattle.btr_base.specs.Fold.{after, gathered}
use Rattle.btr_base.proofs.Linear.{shifted_by-xor, shifted_by-zero, shifted_by-add}
use Rattle.btr_base.proofs.Multiple.{combined, exchange, IsMultiple}
use Rattle.btr_base.proofs.Words.{after_lt}

-- equal bytes leave equal registers
pub after-same : (reg n : ℕ) (u v : ℕ → ℕ) → ((j : ℕ) → j < n → u j ≡ v j) → after 8 reg n u ≡ after 8 reg n v
unfolding after
after-same reg zero u v same = refl
after-same reg (suc n) u v same = λ i. shifted_by 8 (bit_xor (after-same reg n u v (λ j lt. same j (omega arith)) i) (same n (omega arith) i))

-- the register after n bytes, and k more
pub after-more : (reg n k : ℕ) (u : ℕ → ℕ) → after 8 reg (k + n) u ≡ after 8 (after 8 reg n u) k (λ j. u (j + n))
unfolding after
after-more reg n zero u = let same : 0 + n ≡ n = omega arith in ap (λ m. after 8 reg m u) same
after-more reg n (suc k) u =
    let same : suc k + n ≡ suc (k + n) = omega arith in
    ap (λ m. after 8 reg m u) same ∙ ap (λ r. shifted_by 8 (bit_xor r (u (k + n)))) (after-more reg n k u)

-- the register after a sum of bytes is the sum of the registers
after-xor : (n : ℕ) (u v : ℕ → ℕ) → after 8 0 n (λ j. bit_xor (u j) (v j)) ≡ bit_xor (after 8 0 n u) (after 8 0 n v)
unfolding after
after-xor zero u v = refl
after-xor (suc n) u v =
    ap (shifted_by 8) (ap (λ r. bit_xor r (bit_xor (u n) (v n))) (after-xor n u v) ∙ exchange (after 8 0 n u) (after 8 0 n v) (u n) (v n))
    ∙ shifted_by-xor 8 (bit_xor (after 8 0 n u) (u n)) (bit_xor (after 8 0 n v) (v n))

-- a first byte of zeros may go
after_none : (n : ℕ) (u : ℕ → ℕ) → u 0 ≡ 0 → after 8 0 (suc n) u ≡ after 8 0 n (λ j. u (j + 1))
unfolding after
after_none zero u none = ap (λ w. shifted_by 8 (bit_xor 0 w)) none ∙ shifted_by-zero 8
after_none (suc n) u none =
    let next : suc n ≡ n + 1 = omega arith in
    λ i. shifted_by 8 (bit_xor (after_none n u none i) (u (next i)))

-- bytes that stand one place further to the front, where the first and the last are zeros
moved : (n : ℕ) (u : ℕ → ℕ) → u 0 ≡ 0 → u n ≡ 0 → after 8 0 n (λ j. u (j + 1)) ≡ shifted_by 8 (after 8 0 n u)
unfolding after
moved n u first last = sym (after_none n u first) ∙ ap (λ w. shifted_by 8 (bit_xor (after 8 0 n u) w)) last ∙ ap (shifted_by 8) (xor_zero_r (after 8 0 n u))

-- the same by more places
moved_by : (a n : ℕ) (u : ℕ → ℕ) → ((i : ℕ) → i < a → u i ≡ 0) → ((i : ℕ) → n ≤ i → u i ≡ 0) → after 8 0 n (λ j. u (j + a)) ≡ shifted_by (8 * a) (after 8 0 n u)
unfolding shifted_by
moved_by zero n u front back = after-same 0 n (λ j. u (j + 0)) u (λ j lt. ap u (omega arith))
moved_by (suc a) n u front back =
    let once : ℕ → ℕ = λ i. u (i + a) in
    let sum : 8 * a + 8 ≡ 8 * suc a = omega arith in
    after-same 0 n (λ j. u (j + suc a)) (λ j. once (j + 1)) (λ j lt. ap u (omega arith))
    ∙ moved n once (front (0 + a) (omega arith)) (back (n + a) (omega arith))
    ∙ ap (shifted_by 8) (moved_by a n u (λ i lt. front i (omega arith)) back)
    ∙ sym (shifted_by-add (8 * a) 8 (after 8 0 n u)) ∙ ap (λ k. shifted_by k (after 8 0 n u)) sum

-- what is gathered of a sum is the sum of what is gathered of each
gathered-xor : (es : List ℕ) (u v : ℕ → ℕ) (j : ℕ) → gathered es (λ i. bit_xor (u i) (v i)) j ≡ bit_xor (gathered es u j) (gathered es v j)
unfolding gathered
gathered-xor [] u v j = refl
gathered-xor (e ∷ es) u v j = ap (bit_xor (bit_xor (u (j + e)) (v (j + e)))) (gathered-xor es u v j)
    ∙ exchange (u (j + e)) (v (j + e)) (gathered es u j) (gathered es v j)

-- what is gathered m places further on is gathered of the numbers from place m on
pub gathered-moved : (es : List ℕ) (u : ℕ → ℕ) (m j : ℕ) → gathered es u (j + m) ≡ gathered es (λ i. u (i + m)) j
unfolding gathered
gathered-moved [] u m j = refl
gathered-moved (e ∷ es) u m j = let same : j + m + e ≡ j + e + m = omega arith in λ i. bit_xor (u (same i)) (gathered-moved es u m j i)

-- all of some numbers are at most d
abbrev pub AreWithin : ℕ → List ℕ → Type 0
AreWithin d [] = Unit {0}
AreWithin d (e ∷ es) = (e ≤ d) × AreWithin d es

-- what is gathered depends on the places from j to j + d
pub gathered-same : (d : ℕ) (es : List ℕ) (u v : ℕ → ℕ) (j k : ℕ) → AreWithin d es → ((a : ℕ) → a ≤ d → u (j + a) ≡ v (k + a)) → gathered es u j
    ≡ gathered es v k
unfolding gathered
gathered-same d [] u v j k within same = refl
gathered-same d (e ∷ es) u v j k within same = λ i. bit_xor (same e within.0 i) (gathered-same d es u v j k within.1 same i)

-- where nothing stands nothing is gathered
pub gathered_none : (es : List ℕ) (u : ℕ → ℕ) (j : ℕ) → ((i : ℕ) → j ≤ i → u i ≡ 0) → gathered es u j ≡ 0
unfolding gathered
gathered_none [] u j none = refl
gathered_none (e ∷ es) u j none = λ i. bit_xor (none (j + e) (omega arith) i) (gathered_none es u j none i)

-- bytes of zeros leave the register 0
pub after-zeros : (n : ℕ) → after 8 0 n (λ j. 0) ≡ 0
unfolding after
after-zeros zero = refl
after-zeros (suc n) = ap (λ r. shifted_by 8 (bit_xor r 0)) (after-zeros n) ∙ shifted_by-zero 8

-- bytes between some of zeros, gathered
after-gathered : (d : ℕ) (es : List ℕ) (n : ℕ) (u : ℕ → ℕ) → AreWithin d es → ((i : ℕ) → i < d → u i ≡ 0) → ((i : ℕ) → n ≤ i → u i ≡ 0)
    → after 8 0 n (gathered es u) ≡ combined 8 es (after 8 0 n u)
unfolding gathered combined
after-gathered d [] n u within front back = after-zeros n
after-gathered d (e ∷ es) n u within front back =
    after-xor n (λ j. u (j + e)) (gathered es u)
    ∙ (λ i. bit_xor (moved_by e n u (λ i lt. front i (omega (arith, within.0))) back i) (after-gathered d es n u within.1 front back i))

-- first bytes of zeros may go
skipped : (m k : ℕ) (u : ℕ → ℕ) → ((j : ℕ) → j < m → u j ≡ 0) → after 8 0 (m + k) u ≡ after 8 0 k (λ j. u (j + m))
skipped zero k u none = let same : 0 + k ≡ k = omega arith in ap (λ n. after 8 0 n u) same ∙ after-same 0 k u (λ j. u (j + 0)) (λ j lt. ap u (omega arith))
skipped (suc m) k u none =
    let next : ℕ → ℕ = λ j. u (j + 1) in
    let same : suc m + k ≡ suc (m + k) = omega arith in
    ap (λ n. after 8 0 n u) same ∙ after_none (m + k) u (none 0 (omega arith))
    ∙ skipped m k next (λ j lt. none (j + 1) (omega arith))
    ∙ after-same 0 k (λ j. next (j + m)) (λ j. u (j + suc m)) (λ j lt. ap u (omega arith))

-- the numbers at the first d places
abbrev pub front : ℕ → (ℕ → ℕ) → ℕ → ℕ
front d u i = cond (ltb i d) (u i) 0

-- the numbers behind them
abbrev back : ℕ → (ℕ → ℕ) → ℕ → ℕ
back d u i = cond (ltb i d) 0 (u i)

-- of 0 and a number that is 0, either is 0
either_zero : (b : Bool) (x : ℕ) → x ≡ 0 → cond b 0 x ≡ 0
either_zero true x e = refl
either_zero false x e = e

-- of 0 and a number of 32 bits, either has 32 bits
either_fits : (b : Bool) (x : ℕ) → x < 2 ^ 32 → cond b 0 x < 2 ^ 32
either_fits true x lt = omega arith
either_fits false x lt = lt

-- a number on one side of a test and 0 on the other add up to the number
either_sum : (b : Bool) (x : ℕ) → bit_xor (cond b x 0) (cond b 0 x) ≡ x
either_sum true x = xor_zero_r x
either_sum false x = xor_zero_l x

-- the numbers at the first d places and those behind them add up to all
parted : (d : ℕ) (u : ℕ → ℕ) (i : ℕ) → bit_xor (front d u i) (back d u i) ≡ u i
parted d u i = either_sum (ltb i d) (u i)

-- of the numbers behind the first d places none stands at those places
back_front : (d : ℕ) (u : ℕ → ℕ) (i : ℕ) → i < d → back d u i ≡ 0
back_front d u i lt = ap (λ b. cond b 0 (u i)) below
  where
    below : ltb i d ≡ true
    below = grind (arith, nat_tests)

-- at the first d places the front is the numbers themselves
pub front_in : (d : ℕ) (u : ℕ → ℕ) (i : ℕ) → i < d → front d u i ≡ u i
front_in d u i lt = ap (λ b. cond b (u i) 0) below
  where
    below : ltb i d ≡ true
    below = grind (arith, nat_tests)

-- past the first d places the front is 0
pub front_past : (d : ℕ) (u : ℕ → ℕ) (i : ℕ) → d ≤ i → front d u i ≡ 0
front_past d u i le = ap (λ b. cond b (u i) 0) past
  where
    past : ltb i d ≡ false
    past = grind (arith, nat_tests)

-- where the numbers at the first d places have 32 bits, all of the front have
pub front_fits : (d : ℕ) (u : ℕ → ℕ) → ((i : ℕ) → i < d → u i < 2 ^ 32) → (i : ℕ) → front d u i < 2 ^ 32
front_fits d u fits i = elim (cases_lt i d) [
  | inl lt ↦ omega (arith, front_in d u i lt, fits i lt)
  | inr le ↦ omega (arith, front_past d u i le)
]

-- (w ^ ((w ^ g) ^ g)) is 0
twice : (w g : ℕ) → bit_xor w (bit_xor (bit_xor w g) g) ≡ 0
twice w g = ap (bit_xor w) (xor_assoc w g g ∙ ap (bit_xor w) (xor_self g) ∙ xor_zero_r w) ∙ xor_self w

-- m bytes are dropped: what they send ahead is left
pub dropped : (d : ℕ) (es : List ℕ) (byte u : ℕ → ℕ) (m k : ℕ) → AreWithin d es → IsMultiple 8 (d ∷ es) → d ≤ k → ((i : ℕ) → u i < 2 ^ 32)
    → ((i : ℕ) → m + d ≤ i → u i ≡ 0) → ((j : ℕ) → j < m → u (j + d) ≡ bit_xor (byte j) (gathered es u j))
    → after 8 0 (m + k) (λ j. bit_xor (byte j) (gathered (d ∷ es) (front d u) j))
    ≡ after 8 0 k (λ j. bit_xor (byte (j + m)) (gathered (d ∷ es) (λ i. u (i + m)) j))
unfolding gathered
dropped d es byte u m k within multiple wide fits end step =
    let all : List ℕ = d ∷ es in
    let before : ℕ → ℕ = λ j. bit_xor (byte j) (gathered all (front d u) j) in
    let behind : ℕ → ℕ = back d u in
    let sent : ℕ → ℕ = gathered all behind in
    let left : ℕ → ℕ = λ j. bit_xor (byte j) (gathered all u j) in
    let small : (i : ℕ) → behind i < 2 ^ 32 = λ i. either_fits (ltb i d) (u i) (fits i) in
    let nothing : after 8 0 (m + k) sent ≡ 0 =
    after-gathered d all (m + k) behind (omega arith, within) (back_front d u) (λ i le. either_zero (ltb i d) (u i) (end i (omega arith)))
    ∙ multiple (after 8 0 (m + k) behind) (after_lt 8 0 (m + k) behind (omega arith) small) in
    sym (xor_zero_r (after 8 0 (m + k) before)) ∙ ap (bit_xor (after 8 0 (m + k) before)) (sym nothing) ∙ sym (after-xor (m + k) before sent)
    ∙ after-same 0 (m + k) (λ j. bit_xor (before j) (sent j)) left (λ j lt.
    xor_assoc (byte j) (gathered all (front d u) j) (sent j)
    ∙ ap (bit_xor (byte j)) (sym (gathered-xor all (front d u) behind j) ∙ (λ i. gathered all (λ t. parted d u t i) j)))
    ∙ skipped m k left (λ j lt. ap (λ x. bit_xor (byte j) (bit_xor x (gathered es u j))) (step j lt) ∙ twice (byte j) (gathered es u j))
    ∙ after-same 0 k (λ j. left (j + m)) (λ j. bit_xor (byte (j + m)) (gathered all (λ i. u (i + m)) j))
    (λ j lt. ap (bit_xor (byte (j + m))) (gathered-moved all u m j))
