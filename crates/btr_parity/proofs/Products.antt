-- The laws of the field.
use Rattle.std.proofs.Common.{◌≡◌, ℕ, zero, suc, ◌+◌, ◌*◌, ◌/◌, ◌%◌, ◌^◌, ◌<◌, true, cond, eqb, ltb, refl, sym, ap, ap₂, ◌∙◌, arith, bit_xor}
use Rattle.std.specs.Int.Bits.{xor_self, xor_zero_l, xor_zero_r}
use Rattle.std.proofs.lemmas.Bool.{eqb-true}
use Rattle.std.proofs.lemmas.Nat.{xor_shr, xor_mod, xor_block, pow_pos, mod-pow-add, mod_below}
use borrow.Author.Tests.{ltb-true}
use Rattle.btr_parity.specs.Field.{modulus, multiplied, reduced, product, power}
use Rattle.btr_parity.proofs.Additive.{IsAdditive, zero_of, xor_swap, double-xor, coefficient-xor, coefficients-xor, after, identity, same_below, small_below}
use Rattle.btr_parity.proofs.Additive.{upto, upto_holds}

-- ---- products keep sums

-- the lowest coefficient of a sum is the sum of the lowest coefficients
low-xor : (a b : ℕ) → bit_xor a b % 2 ≡ bit_xor (a % 2) (b % 2)
low-xor a b = xor_mod a b 1

-- a sum divided by x is the sum of the quotients
half-xor : (a b : ℕ) → bit_xor a b / 2 ≡ bit_xor (a / 2) (b / 2)
half-xor a b = xor_shr a b 1

-- a polynomial times a sum is the sum of the products
pub multiplied-right : (n a b c : ℕ) → multiplied n a (bit_xor b c) ≡ bit_xor (multiplied n a b) (multiplied n a c)
unfolding multiplied
multiplied-right zero a b c = sym (xor_self 0)
multiplied-right (suc n) a b c =
    ap₂ bit_xor (coefficient-xor (a % 2) b c (omega arith))
    (ap (λ x. 2 * x) (multiplied-right n (a / 2) b c) ∙ double-xor (multiplied n (a / 2) b) (multiplied n (a / 2) c))
    ∙ xor_swap (a % 2 * b) (a % 2 * c) (2 * multiplied n (a / 2) b) (2 * multiplied n (a / 2) c)

-- a sum times a polynomial is the sum of the products
pub multiplied-left : (n a b c : ℕ) → multiplied n (bit_xor a b) c ≡ bit_xor (multiplied n a c) (multiplied n b c)
unfolding multiplied
multiplied-left zero a b c = sym (xor_self 0)
multiplied-left (suc n) a b c =
    ap₂ bit_xor (ap (λ x. x * c) (low-xor a b) ∙ coefficients-xor (a % 2) (b % 2) c (omega arith) (omega arith))
    (ap (λ x. 2 * multiplied n x c) (half-xor a b) ∙ ap (λ x. 2 * x) (multiplied-left n (a / 2) (b / 2) c)
    ∙ double-xor (multiplied n (a / 2) c) (multiplied n (b / 2) c))
    ∙ xor_swap (a % 2 * c) (b % 2 * c) (2 * multiplied n (a / 2) c) (2 * multiplied n (b / 2) c)

-- the coefficient of x^k
coefficient : ℕ → ℕ → ℕ
coefficient k a = a / 2 ^ k % 2

-- the coefficient of a sum is the sum of the coefficients
coefficient_of_sum : (k a b : ℕ) → coefficient k (bit_xor a b) ≡ bit_xor (coefficient k a) (coefficient k b)
unfolding coefficient
coefficient_of_sum k a b = ap (λ x. x % 2) (xor_shr a b k) ∙ low-xor (a / 2 ^ k) (b / 2 ^ k)

-- the remainder of a sum is the sum of the remainders
pub reduced-xor : (n a b : ℕ) → reduced n (bit_xor a b) ≡ bit_xor (reduced n a) (reduced n b)
unfolding reduced coefficient
reduced-xor zero a b = refl
reduced-xor (suc n) a b =
    let m = modulus * 2 ^ n in
    let k : ℕ = 8 + n in
    ap (λ x. reduced n (bit_xor (bit_xor a b) x))
    (ap (λ x. x * m) (coefficient_of_sum k a b) ∙ coefficients-xor (coefficient k a) (coefficient k b) m (omega arith) (omega arith))
    ∙ ap (reduced n) (xor_swap a b (coefficient k a * m) (coefficient k b * m))
    ∙ reduced-xor n (bit_xor a (coefficient k a * m)) (bit_xor b (coefficient k b * m))

-- a byte times a sum is the sum of the products
pub product-right : (a : ℕ) → IsAdditive (product a)
unfolding product
product-right a = record { adds = λ b c. ap (reduced 7) (multiplied-right 8 a b c) ∙ reduced-xor 7 (multiplied 8 a b) (multiplied 8 a c) }

-- a sum times a byte is the sum of the products
pub product-left : (b : ℕ) → IsAdditive (λ a. product a b)
unfolding product
product-left c = record { adds = λ a b. ap (reduced 7) (multiplied-left 8 a b c) ∙ reduced-xor 7 (multiplied 8 a c) (multiplied 8 b c) }

-- ---- the laws, from the products of the powers of x below x^8

-- what is tested to be equal at each number below a bound is equal there
equal : (p q : ℕ → ℕ) (n : ℕ) → upto (λ k. eqb (p k) (q k)) n ≡ true → (k : ℕ) → k < n → p k ≡ q k
equal p q n all k h = eqb-true (p k) (q k) (upto_holds (λ k. eqb (p k) (q k)) n k all h)

-- powers of x below x^8 are multiplied in either order
all_turned : upto (λ j. upto (λ k. eqb (product (2 ^ j) (2 ^ k)) (product (2 ^ k) (2 ^ j))) 8) 8 ≡ true
unfolding product multiplied reduced
all_turned = refl

-- bytes are multiplied in either order
pub product_comm : (a b : ℕ) → a < 2 ^ 8 → b < 2 ^ 8 → product a b ≡ product b a
product_comm a b h k =
    same_below 8 (product a) (λ b. product b a) (product-right a) (product-left a) (λ j lt. by_left j lt) b k
  where
    -- a byte and a power of x are multiplied in either order
    by_left : (j : ℕ) → j < 8 → product a (2 ^ j) ≡ product (2 ^ j) a
    by_left j lt =
        same_below 8 (λ a. product a (2 ^ j)) (product (2 ^ j)) (product-left (2 ^ j)) (product-right (2 ^ j))
        (λ i less. equal (λ k. product (2 ^ i) (2 ^ k)) (λ k. product (2 ^ k) (2 ^ i)) 8
        (upto_holds (λ j. upto (λ k. eqb (product (2 ^ j) (2 ^ k)) (product (2 ^ k) (2 ^ j))) 8) 8 i all_turned less) j lt)
        a h

-- the product of powers of x below x^8 is a byte
all_small : upto (λ j. upto (λ k. ltb (product (2 ^ j) (2 ^ k)) (2 ^ 8)) 8) 8 ≡ true
unfolding product multiplied reduced
all_small = refl

-- the product of bytes is a byte
pub product-lt : (a b : ℕ) → a < 2 ^ 8 → b < 2 ^ 8 → product a b < 2 ^ 8
product-lt a b h k = small_below 8 8 (product a) (product-right a) (λ j lt. by_left j lt) b k
  where
    -- the product of a byte and a power of x is a byte
    by_left : (j : ℕ) → j < 8 → product a (2 ^ j) < 2 ^ 8
    by_left j lt =
        small_below 8 8 (λ a. product a (2 ^ j)) (product-left (2 ^ j))
        (λ i less. ltb-true (product (2 ^ i) (2 ^ j)) (2 ^ 8)
        (upto_holds (λ k. ltb (product (2 ^ i) (2 ^ k)) (2 ^ 8)) 8 j
        (upto_holds (λ j. upto (λ k. ltb (product (2 ^ j) (2 ^ k)) (2 ^ 8)) 8) 8 i all_small less) lt))
        a h

-- powers of x below x^8 are multiplied in any grouping
all_joined : upto (λ i. upto (λ j. upto (λ k. eqb (product (product (2 ^ i) (2 ^ j)) (2 ^ k)) (product (2 ^ i) (product (2 ^ j) (2 ^ k)))) 8) 8) 8 ≡ true
unfolding product multiplied reduced
all_joined = refl

-- bytes are multiplied in any grouping
pub product_assoc : (a b c : ℕ) → a < 2 ^ 8 → b < 2 ^ 8 → c < 2 ^ 8 → product (product a b) c ≡ product a (product b c)
product_assoc a b c la lb lc =
    same_below 8 (product (product a b)) (λ c. product a (product b c)) (product-right (product a b))
    (after (product a) (product b) (product-right a) (product-right b))
    (λ k lt. by_second k lt) c lc
  where
    -- a byte and two powers of x are multiplied in any grouping
    by_first : (j k : ℕ) → j < 8 → k < 8 → product (product a (2 ^ j)) (2 ^ k) ≡ product a (product (2 ^ j) (2 ^ k))
    by_first j k lj lk =
        same_below 8 (λ a. product (product a (2 ^ j)) (2 ^ k)) (λ a. product a (product (2 ^ j) (2 ^ k)))
        (after (λ a. product a (2 ^ k)) (λ a. product a (2 ^ j)) (product-left (2 ^ k)) (product-left (2 ^ j))) (product-left (product (2 ^ j) (2 ^ k)))
        (λ i li. equal (λ k. product (product (2 ^ i) (2 ^ j)) (2 ^ k)) (λ k. product (2 ^ i) (product (2 ^ j) (2 ^ k))) 8
        (upto_holds (λ j. upto (λ k. eqb (product (product (2 ^ i) (2 ^ j)) (2 ^ k)) (product (2 ^ i) (product (2 ^ j) (2 ^ k)))) 8) 8 j
        (upto_holds (λ i. upto (λ j. upto (λ k. eqb (product (product (2 ^ i) (2 ^ j)) (2 ^ k)) (product (2 ^ i) (product (2 ^ j) (2 ^ k)))) 8) 8) 8 i
        all_joined li) lj) k lk)
        a la

    -- two bytes and a power of x are multiplied in any grouping
    by_second : (k : ℕ) → k < 8 → product (product a b) (2 ^ k) ≡ product a (product b (2 ^ k))
    by_second k lk =
        same_below 8 (λ b. product (product a b) (2 ^ k)) (λ b. product a (product b (2 ^ k)))
        (after (λ a. product a (2 ^ k)) (product a) (product-left (2 ^ k)) (product-right a))
        (after (product a) (λ b. product b (2 ^ k)) (product-right a) (product-left (2 ^ k)))
        (λ j lj. by_first j k lj lk) b lb

-- 1 times a power of x below x^8 is that power
all_kept : upto (λ k. eqb (product 1 (2 ^ k)) (2 ^ k)) 8 ≡ true
unfolding product multiplied reduced
all_kept = refl

-- 1 times a byte is the byte
pub product-one : (a : ℕ) → a < 2 ^ 8 → product 1 a ≡ a
product-one a h = same_below 8 (product 1) (λ a. a) (product-right 1) identity (equal (λ k. product 1 (2 ^ k)) (λ k. 2 ^ k) 8 all_kept) a h

-- each power of 2 in the field is a byte
pub power-lt : (i : ℕ) → power i < 2 ^ 8
unfolding power
power-lt zero = omega arith
power-lt (suc i) = product-lt 2 (power i) (omega arith) (power-lt i)

-- ---- doubling

-- a byte shifted left by one bit, and 1Dh added where a bit falls out
twice : ℕ → ℕ
twice b = bit_xor (b * 2 % 256) (cond (ltb b 128) 0 0x1D)

-- for each byte that shift is its product with 2
all_doubled : upto (λ b. eqb (twice b) (product 2 b)) 256 ≡ true
unfolding product multiplied reduced twice
all_doubled = refl

-- shifting a byte, and adding 1Dh where a bit falls out, doubles it in the field
pub doubles : (b : ℕ) → b < 2 ^ 8 → bit_xor (b * 2 % 256) (cond (ltb b 128) 0 0x1D) ≡ product 2 b
unfolding twice
doubles b h = equal twice (product 2) 256 all_doubled b h

-- ---- a product, one coefficient after another

-- below x^8 a power of 2 in the field is the number 2^k
low_power : (k : ℕ) → k < 8 → power k ≡ 2 ^ k
unfolding product multiplied reduced power
low_power k h = equal power (λ k. 2 ^ k) 8 refl k h

-- the low k + 1 bits are the low k and the next
next_bit : (b k : ℕ) → b % 2 ^ (k + 1) ≡ bit_xor (b % 2 ^ k) (b / 2 ^ k % 2 * 2 ^ k)
next_bit b k =
    let c : ℕ = b / 2 ^ k % 2 in
    let more : 1 + k ≡ k + 1 = omega arith in
    let block : bit_xor (0 * 2 ^ k + b % 2 ^ k) (c * 2 ^ k + 0) ≡ bit_xor 0 c * 2 ^ k + bit_xor (b % 2 ^ k) 0 =
    xor_block k 0 c (b % 2 ^ k) 0 (mod_below b (2 ^ k) (pow_pos k)) (pow_pos k) in
    let l : 0 * 2 ^ k + b % 2 ^ k ≡ b % 2 ^ k = omega arith in
    let r : c * 2 ^ k + 0 ≡ c * 2 ^ k = omega arith in
    ap (λ n. b % 2 ^ n) (sym more) ∙ mod-pow-add b 1 k ∙ sym (ap₂ (λ u v. u * 2 ^ k + v) (xor_zero_l c) (xor_zero_r (b % 2 ^ k))) ∙ sym block ∙ ap₂ bit_xor l r

-- a bit that is 1 adds a multiple
pub product_more : (a b k : ℕ) → k < 8 → b / 2 ^ k % 2 ≡ 1 → bit_xor (product a (b % 2 ^ k)) (product a (power k)) ≡ product a (b % 2 ^ (k + 1))
product_more a b k h one =
    let whole : b / 2 ^ k % 2 * 2 ^ k ≡ 2 ^ k = ap (λ c. c * 2 ^ k) one ∙ omega arith in
    sym (ap (product a) (next_bit b k ∙ ap (bit_xor (b % 2 ^ k)) (whole ∙ sym (low_power k h))) ∙ (product-right a).adds (b % 2 ^ k) (power k))

-- and one that is 0 none
pub product_same : (a b k : ℕ) → b / 2 ^ k % 2 ≡ 0 → product a (b % 2 ^ k) ≡ product a (b % 2 ^ (k + 1))
product_same a b k zero_bit =
    let nothing : b / 2 ^ k % 2 * 2 ^ k ≡ 0 = ap (λ c. c * 2 ^ k) zero_bit ∙ omega arith in
    sym (ap (product a) (next_bit b k ∙ ap (bit_xor (b % 2 ^ k)) nothing ∙ xor_zero_r (b % 2 ^ k)))

-- twice a product with 2^k is the product with 2^(k + 1)
pub product-power_more : (a k : ℕ) → a < 2 ^ 8 → product 2 (product a (power k)) ≡ product a (power (k + 1))
unfolding power
product-power_more a k h =
    let more : k + 1 ≡ suc k = omega arith in
    sym (product_assoc 2 a (power k) (omega arith) h (power-lt k))
    ∙ ap (λ c. product c (power k)) (product_comm 2 a (omega arith) h)
    ∙ product_assoc a 2 (power k) h (omega arith) (power-lt k) ∙ ap (λ n. product a (power n)) (sym more)

-- a byte times 0 is 0
pub product-zero : (a : ℕ) → product a 0 ≡ 0
product-zero a = zero_of (product a) (product-right a)

-- a byte times 2^0 is the byte
pub product-power_none : (a : ℕ) → a < 2 ^ 8 → product a (power 0) ≡ a
unfolding power
product-power_none a h = product_comm a 1 h (omega arith) ∙ product-one a h
