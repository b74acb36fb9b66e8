-- A product in the field is a remainder.
use Rattle.std.proofs.Common.{◌≡◌, ℕ, zero, suc, ◌+◌, ◌*◌, ◌/◌, ◌%◌, ◌^◌, ◌<◌, true, eqb, ltb, refl, sym, ap, ap₂, ◌∙◌, arith, bit_xor}
use Rattle.std.specs.Int.Bits.{xor_self, xor_zero_l}
use Rattle.std.proofs.lemmas.Bool.{eqb-true}
use Rattle.std.proofs.lemmas.Nat.{xor_shr, xor_mod}
use borrow.Author.Tests.{ltb-true}
use Rattle.btr_parity.specs.Field.{modulus, multiplied, reduced, product, IsProduct}
use Rattle.btr_parity.specs.Laws.{ProductIsRemainder}
use Rattle.btr_parity.proofs.Additive.{IsAdditive, xor_swap, coefficients-xor, after, identity, same_below, small_below, upto, upto_holds}
use Rattle.btr_parity.proofs.Products.{multiplied-left, multiplied-right, reduced-xor, product-lt}

-- what the steps of `reduced` divide by
quotient : ℕ → ℕ → ℕ
quotient zero a = 0
quotient (suc n) a = bit_xor (a / 2 ^ (8 + n) % 2 * 2 ^ n) (quotient n (bit_xor a (a / 2 ^ (8 + n) % 2 * (modulus * 2 ^ n))))

-- a bit of a sum is the sum of the bits
bit-xor : (k a b : ℕ) → bit_xor a b / 2 ^ k % 2 ≡ bit_xor (a / 2 ^ k % 2) (b / 2 ^ k % 2)
bit-xor k a b = ap (λ x. x % 2) (xor_shr a b k) ∙ xor_mod (a / 2 ^ k) (b / 2 ^ k) 1

-- the quotient of a sum is the sum of the quotients
quotient-xor : (n a b : ℕ) → quotient n (bit_xor a b) ≡ bit_xor (quotient n a) (quotient n b)
unfolding quotient
quotient-xor zero a b = sym (xor_self 0)
quotient-xor (suc n) a b =
    let k : ℕ = 8 + n in
    let m = modulus * 2 ^ n in
    let c : ℕ = a / 2 ^ k % 2 in
    let d : ℕ = b / 2 ^ k % 2 in
    let spread : (x : ℕ) → bit_xor a b / 2 ^ k % 2 * x ≡ bit_xor (c * x) (d * x) =
    λ x. ap (λ y. y * x) (bit-xor k a b) ∙ coefficients-xor c d x (omega arith) (omega arith) in
    ap₂ bit_xor (spread (2 ^ n))
    (ap (λ x. quotient n (bit_xor (bit_xor a b) x)) (spread m) ∙ ap (quotient n) (xor_swap a b (c * m) (d * m))
    ∙ quotient-xor n (bit_xor a (c * m)) (bit_xor b (d * m)))
    ∙ xor_swap (c * 2 ^ n) (d * 2 ^ n) (quotient n (bit_xor a (c * m))) (quotient n (bit_xor b (d * m)))

-- the quotient keeps sums
divided : IsAdditive (quotient 7)
divided = record { adds = quotient-xor 7 }

-- the remainder keeps sums
left : IsAdditive (reduced 7)
left = record { adds = reduced-xor 7 }

-- multiples of the modulus keep sums
multiple : IsAdditive (λ q. multiplied 7 q modulus)
multiple = record { adds = λ a b. multiplied-left 7 a b modulus }

-- the sum of two functions that keep sums keeps sums
sum_of : (f g : ℕ → ℕ) → IsAdditive f → IsAdditive g → IsAdditive (λ a. bit_xor (f a) (g a))
sum_of f g add_f add_g = record { adds = λ a b. ap₂ bit_xor (add_f.adds a b) (add_g.adds a b) ∙ xor_swap (f a) (f b) (g a) (g b) }

-- the quotient times the modulus, and the remainder
whole : ℕ → ℕ
whole a = bit_xor (multiplied 7 (quotient 7 a) modulus) (reduced 7 a)

-- at each power of x below x^15 quotient and remainder make up the number
all_whole : upto (λ k. eqb (2 ^ k) (whole (2 ^ k))) 15 ≡ true
unfolding whole quotient multiplied reduced
all_whole = refl

-- below x^15 quotient and remainder make up the number
is_whole : (a : ℕ) → a < 2 ^ 15 → a ≡ whole a
unfolding whole
is_whole a h =
    same_below 15 (λ a. a) whole identity (sum_of (λ a. multiplied 7 (quotient 7 a) modulus) (reduced 7)
    (after (λ q. multiplied 7 q modulus) (quotient 7) multiple divided) left)
    (λ k lt. eqb-true (2 ^ k) (whole (2 ^ k)) (upto_holds (λ k. eqb (2 ^ k) (whole (2 ^ k))) 15 k all_whole lt)) a h

-- the quotient of each power of x below x^15 is below x^7
all_divided : upto (λ k. ltb (quotient 7 (2 ^ k)) (2 ^ 7)) 15 ≡ true
unfolding quotient
all_divided = refl

-- the quotient of a number below x^15 is below x^7
quotient-lt : (a : ℕ) → a < 2 ^ 15 → quotient 7 a < 2 ^ 7
quotient-lt a h = small_below 7 15 (quotient 7) divided (λ k lt. ltb-true (quotient 7 (2 ^ k)) (2 ^ 7)
    (upto_holds (λ k. ltb (quotient 7 (2 ^ k)) (2 ^ 7)) 15 k all_divided lt)) a h

-- the product of powers of x below x^8, not reduced, is below x^15
all_multiplied : upto (λ j. upto (λ k. ltb (multiplied 8 (2 ^ j) (2 ^ k)) (2 ^ 15)) 8) 8 ≡ true
unfolding multiplied
all_multiplied = refl

-- the product of bytes, not reduced, is below x^15
multiplied-lt : (a b : ℕ) → a < 2 ^ 8 → b < 2 ^ 8 → multiplied 8 a b < 2 ^ 15
multiplied-lt a b h k = small_below 15 8 (multiplied 8 a) (record { adds = multiplied-right 8 a }) by_left b k
  where
    -- a byte times a power of x, not reduced, is below x^15
    by_left : (j : ℕ) → j < 8 → multiplied 8 a (2 ^ j) < 2 ^ 15
    by_left j lt =
        small_below 15 8 (λ a. multiplied 8 a (2 ^ j)) (record { adds = λ a b. multiplied-left 8 a b (2 ^ j) })
        (λ i less. ltb-true (multiplied 8 (2 ^ i) (2 ^ j)) (2 ^ 15)
        (upto_holds (λ k. ltb (multiplied 8 (2 ^ i) (2 ^ k)) (2 ^ 15)) 8 j
        (upto_holds (λ j. upto (λ k. ltb (multiplied 8 (2 ^ j) (2 ^ k)) (2 ^ 15)) 8) 8 i all_multiplied less) lt))
        a h

-- the product in the field is the remainder of the polynomials' product
is_product : (a b : ℕ) → a < 256 → b < 256 → IsProduct a b (product a b)
unfolding product whole
is_product a b h k =
    let small = multiplied-lt a b h k in
    record {
      quotient = quotient 7 (multiplied 8 a b);
      byte = product-lt a b h k;
      small = quotient-lt (multiplied 8 a b) small;
      whole = is_whole (multiplied 8 a b) small;
    }

-- the modulus times each power of x below x^7 leaves nothing
all_gone : upto (λ k. eqb (reduced 7 (multiplied 7 (2 ^ k) modulus)) 0) 7 ≡ true
unfolding multiplied reduced
all_gone = refl

-- a function that is 0 everywhere keeps sums
nothing : IsAdditive (λ a. 0)
nothing = record { adds = λ a b. sym (xor_self 0) }

-- a multiple of the modulus leaves nothing
multiple_gone : (q : ℕ) → q < 2 ^ 7 → reduced 7 (multiplied 7 q modulus) ≡ 0
multiple_gone q h =
    same_below 7 (λ q. reduced 7 (multiplied 7 q modulus)) (λ q. 0) (after (reduced 7) (λ q. multiplied 7 q modulus) left multiple) nothing
    (λ k lt. eqb-true (reduced 7 (multiplied 7 (2 ^ k) modulus)) 0 (upto_holds (λ k. eqb (reduced 7 (multiplied 7 (2 ^ k) modulus)) 0) 7 k all_gone lt)) q h

-- each power of x below x^8 is its own remainder
all_left : upto (λ k. eqb (reduced 7 (2 ^ k)) (2 ^ k)) 8 ≡ true
unfolding reduced
all_left = refl

-- a byte is its own remainder
byte_left : (c : ℕ) → c < 2 ^ 8 → reduced 7 c ≡ c
byte_left c h = same_below 8 (reduced 7) (λ c. c) left identity
    (λ k lt. eqb-true (reduced 7 (2 ^ k)) (2 ^ k) (upto_holds (λ k. eqb (reduced 7 (2 ^ k)) (2 ^ k)) 8 k all_left lt)) c h

-- a byte that is a remainder of the polynomials' product is the product in the field
only_product : (a b c : ℕ) → IsProduct a b c → c ≡ product a b
unfolding product
only_product a b c is =
    sym (ap (reduced 7) is.whole ∙ reduced-xor 7 (multiplied 7 is.quotient modulus) c
    ∙ ap₂ bit_xor (multiple_gone is.quotient is.small) (byte_left c is.byte) ∙ xor_zero_l c)

-- the product of two bytes is the remainder of the polynomials' product, and no other byte is
pub product_is_remainder : ProductIsRemainder
product_is_remainder = record { is = is_product; only = only_product }
