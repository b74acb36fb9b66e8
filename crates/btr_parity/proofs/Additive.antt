-- Functions of bytes that keep sums, and what eight bytes tell of them.
use Rattle.std.proofs.Common.{◌≡◌, ℕ, zero, suc, ◌+◌, ◌*◌, ◌/◌, ◌%◌, ◌^◌, ◌<◌, ◌≤◌, Bool, true, false, cond, refl, sym, ap, ap₂, ◌∙◌, subst, ⊎_elim, arith}
use Rattle.std.proofs.Common.{bit_xor}
use Rattle.std.specs.Int.Bits.{xor_assoc, xor_self, xor_zero_l, xor_zero_r}
use Rattle.std.proofs.lemmas.Bool.{cases_lt}
use Rattle.std.proofs.lemmas.Nat.{xor_comm, xor_lt, xor_block, pow_pos}

-- f keeps sums
pub record IsAdditive (f : ℕ → ℕ) : Type 0 where
  pub adds : (a b : ℕ) → f (bit_xor a b) ≡ bit_xor (f a) (f b)

-- a function that keeps sums is 0 at 0
pub zero_of : (f : ℕ → ℕ) → IsAdditive f → f 0 ≡ 0
zero_of f add = ap f (sym (xor_self 0)) ∙ add.adds 0 0 ∙ xor_self (f 0)

-- x * (a + b)
pub double-xor : (a b : ℕ) → 2 * bit_xor a b ≡ bit_xor (2 * a) (2 * b)
double-xor a b =
    let block : bit_xor (a * 2 ^ 1 + 0) (b * 2 ^ 1 + 0) ≡ bit_xor a b * 2 ^ 1 + bit_xor 0 0 = xor_block 1 a b 0 0 (omega arith) (omega arith) in
    let l : a * 2 ^ 1 + 0 ≡ 2 * a = omega arith in
    let r : b * 2 ^ 1 + 0 ≡ 2 * b = omega arith in
    let s : bit_xor a b * 2 ^ 1 + bit_xor 0 0 ≡ 2 * bit_xor a b = omega (arith, xor_self 0) in
    sym s ∙ sym block ∙ ap₂ bit_xor l r

-- a number is its lowest bit and x times the rest
pub parts : (a : ℕ) → a ≡ bit_xor (a % 2) (2 * (a / 2))
parts a =
    let block : bit_xor (0 * 2 ^ 1 + a % 2) (a / 2 * 2 ^ 1 + 0) ≡ bit_xor 0 (a / 2) * 2 ^ 1 + bit_xor (a % 2) 0 =
    xor_block 1 0 (a / 2) (a % 2) 0 (omega arith) (omega arith) in
    let l : 0 * 2 ^ 1 + a % 2 ≡ a % 2 = omega arith in
    let r : a / 2 * 2 ^ 1 + 0 ≡ 2 * (a / 2) = omega arith in
    let whole : a ≡ a / 2 * 2 + a % 2 = omega arith in
    whole ∙ sym (ap₂ (λ u v. u * 2 ^ 1 + v) (xor_zero_l (a / 2)) (xor_zero_r (a % 2))) ∙ sym block ∙ ap₂ bit_xor l r

-- (p + q) + (r + s) is (p + r) + (q + s)
pub xor_swap : (p q r s : ℕ) → bit_xor (bit_xor p q) (bit_xor r s) ≡ bit_xor (bit_xor p r) (bit_xor q s)
xor_swap p q r s =
    xor_assoc p q (bit_xor r s) ∙ ap (bit_xor p) (sym (xor_assoc q r s) ∙ ap (λ x. bit_xor x s) (xor_comm q r) ∙ xor_assoc r q s)
    ∙ sym (xor_assoc p r (bit_xor q s))

-- the coefficient 0 leaves nothing
none : (a : ℕ) → 0 * a ≡ 0
none a = omega arith

-- the coefficient 1 leaves the number
once : (a : ℕ) → 1 * a ≡ a
once a = omega arith

-- a coefficient times a sum
pub coefficient-xor : (c a b : ℕ) → c < 2 → c * bit_xor a b ≡ bit_xor (c * a) (c * b)
coefficient-xor zero a b h = none (bit_xor a b) ∙ sym (ap₂ bit_xor (none a) (none b) ∙ xor_self 0)
coefficient-xor (suc zero) a b h = once (bit_xor a b) ∙ sym (ap₂ bit_xor (once a) (once b))
coefficient-xor (suc (suc c)) a b h = absurd (omega arith)

-- a sum of coefficients times a number
pub coefficients-xor : (c d a : ℕ) → c < 2 → d < 2 → bit_xor c d * a ≡ bit_xor (c * a) (d * a)
coefficients-xor zero d a h k = ap (λ x. x * a) (xor_zero_l d) ∙ sym (ap (λ x. bit_xor x (d * a)) (none a) ∙ xor_zero_l (d * a))
coefficients-xor (suc zero) zero a h k = ap (λ x. x * a) (xor_zero_r 1) ∙ sym (ap (bit_xor (1 * a)) (none a) ∙ xor_zero_r (1 * a))
coefficients-xor (suc zero) (suc zero) a h k = ap (λ x. x * a) (xor_self 1) ∙ none a ∙ sym (xor_self (1 * a))
coefficients-xor (suc zero) (suc (suc d)) a h k = absurd (omega arith)
coefficients-xor (suc (suc c)) d a h k = absurd (omega arith)

-- one function that keeps sums after another one keeps sums
pub after : (f g : ℕ → ℕ) → IsAdditive f → IsAdditive g → IsAdditive (λ a. f (g a))
after f g add_f add_g = record { adds = λ a b. ap f (add_g.adds a b) ∙ add_f.adds (g a) (g b) }

-- x times a polynomial keeps sums
pub doubling : IsAdditive (λ a. 2 * a)
doubling = record { adds = double-xor }

-- leaving a number as it is keeps sums
pub identity : IsAdditive (λ a. a)
identity = record { adds = λ a b. refl }

-- ---- additive functions that agree at the powers of x agree everywhere

-- functions that keep sums and agree at 1 agree at each coefficient
bit_of : (f g : ℕ → ℕ) → IsAdditive f → IsAdditive g → f 1 ≡ g 1 → (c : ℕ) → c < 2 → f c ≡ g c
bit_of f g add_f add_g e zero h = zero_of f add_f ∙ sym (zero_of g add_g)
bit_of f g add_f add_g e (suc zero) h = e
bit_of f g add_f add_g e (suc (suc c)) h = absurd (omega arith)

-- x times x^k is x^(k + 1)
shift_in : (k : ℕ) → 2 * 2 ^ k ≡ 2 ^ suc k
shift_in k = omega arith

-- functions that keep sums and agree at the first n powers of x agree below x^n
pub same_below : (n : ℕ) (f g : ℕ → ℕ) → IsAdditive f → IsAdditive g → ((k : ℕ) → k < n → f (2 ^ k) ≡ g (2 ^ k)) → (a : ℕ) → a < 2 ^ n → f a ≡ g a
same_below zero f g add_f add_g agree a h =
    let e : a ≡ 0 = omega arith in
    ap f e ∙ zero_of f add_f ∙ sym (ap g e ∙ zero_of g add_g)
same_below (suc n) f g add_f add_g agree a h =
    let more = same_below n (λ b. f (2 * b)) (λ b. g (2 * b)) (after f (λ b. 2 * b) add_f doubling) (after g (λ b. 2 * b) add_g doubling)
    (λ k lt. ap f (shift_in k) ∙ agree (suc k) (omega arith) ∙ ap g (sym (shift_in k))) (a / 2) (omega (arith, shift_in n)) in
    ap f (parts a) ∙ add_f.adds (a % 2) (2 * (a / 2))
    ∙ ap₂ bit_xor (bit_of f g add_f add_g (agree 0 (omega arith)) (a % 2) (omega arith)) more
    ∙ sym (ap g (parts a) ∙ add_g.adds (a % 2) (2 * (a / 2)))

-- ---- and one that is small there is small everywhere

-- a function that keeps sums and is small at 1 is small at each coefficient
small_bit : (m : ℕ) (f : ℕ → ℕ) → IsAdditive f → f 1 < 2 ^ m → (c : ℕ) → c < 2 → f c < 2 ^ m
small_bit m f add_f e zero h = omega (arith, zero_of f add_f, pow_pos m)
small_bit m f add_f e (suc zero) h = e
small_bit m f add_f e (suc (suc c)) h = absurd (omega arith)

-- a function that keeps sums and is small at the first n powers of x is small below x^n
pub small_below : (m n : ℕ) (f : ℕ → ℕ) → IsAdditive f → ((k : ℕ) → k < n → f (2 ^ k) < 2 ^ m) → (a : ℕ) → a < 2 ^ n → f a < 2 ^ m
small_below m zero f add_f small a h =
    let e : a ≡ 0 = omega arith in
    let z : f a ≡ 0 = ap f e ∙ zero_of f add_f in
    omega (arith, pow_pos m)
small_below m (suc n) f add_f small a h =
    let P : ℕ → Type 0 = λ x. x < 2 ^ m in
    let more = small_below m n (λ b. f (2 * b)) (after f (λ b. 2 * b) add_f doubling)
    (λ k lt. subst P (ap f (sym (shift_in k))) (small (suc k) (omega arith))) (a / 2) (omega (arith, shift_in n)) in
    subst P (sym (ap f (parts a) ∙ add_f.adds (a % 2) (2 * (a / 2))))
    (xor_lt m (f (a % 2)) (f (2 * (a / 2))) (small_bit m f add_f (small 0 (omega arith)) (a % 2) (omega arith)) more)

-- ---- tests of every number below a bound

-- p holds at each number below n
abbrev pub upto : (ℕ → Bool) → ℕ → Bool
upto p zero = true
upto p (suc n) = cond (p n) (upto p n) false

-- of two tests that hold both hold
pub upto-both : (b c : Bool) → cond b c false ≡ true → (b ≡ true) × (c ≡ true)
upto-both true c e = (refl, e)
upto-both false c e = absurd (cc (e))

-- what is tested of every number below a bound holds of each
pub upto_holds : (p : ℕ → Bool) (n k : ℕ) → upto p n ≡ true → k < n → p k ≡ true
upto_holds p zero k e h = absurd (omega arith)
upto_holds p (suc n) k e h =
    let both = upto-both (p n) (upto p n) e in
    ⊎_elim (λ lt. upto_holds p n k both.1 lt) (λ le. ap p (last le) ∙ both.0) (cases_lt k n)
  where
    -- a number below n + 1 that is not below n is n
    last : n ≤ k → k ≡ n
    last le = omega arith
