-- The register, by bytes and by words of 32 bits.
use Rattle.std.proofs.Common.{◌≡◌, ℕ, zero, suc, ◌+◌, ◌*◌, ◌/◌, ◌%◌, ◌^◌, ◌<◌, ◌≤◌, ◌-◌, List, [], ◌∷◌, length, get_or, take, drop, refl, sym, ap, ◌∙◌, subst}
use Rattle.std.proofs.Common.{arith, length-drop}
use Rattle.std.specs.Int.Bits.{bit_xor, xor_assoc, xor_zero_r}
use Rattle.std.proofs.lemmas.Nat.{xor_lt, xor_comm, pow-add}
use Rattle.std.proofs.Math.Nat.{pow-suc, mul_comm, div-div-eq-div-mul}
use Rattle.std.proofs.lemmas.List.{drop-drop, take_rest, get_or-drop, at_drop_more, at_drop_all}
use Rattle.byteorder.specs.Endian.{little_from, little_number}
use Rattle.byteorder.specs.Numbers.{little_from-lt}
use Rattle.btr_base.specs.Field.{number_at}
use Rattle.btr_base.specs.Crc.{register, shifted_by}
use Rattle.btr_base.specs.Fold.{after}
use Rattle.btr_base.proofs.Shifts.{register-nil, register-cons, shifted_by_lt}
use Rattle.btr_base.proofs.Linear.{shifted_by-xor, shifted_by-add, shifted_by-high, low_byte}

-- one byte of a list
pub register_more : (reg i : ℕ) (bytes : List ℕ) → reg < 2 ^ 32 → i < length bytes → get_or bytes i 0 < 2 ^ 8
    → register (shifted_by 8 (bit_xor reg (get_or bytes i 0))) (drop (i + 1) bytes) ≡ register reg (drop i bytes)
register_more reg i bytes lt in_range fits = sym (at_drop_more (register reg) bytes i 0 in_range
    ∙ register-cons reg (get_or bytes i 0) (drop (i + 1) bytes) lt fits)

-- no more bytes of a list
pub register_all : (reg i : ℕ) (bytes : List ℕ) → reg < 2 ^ 32 → length bytes ≤ i → reg ≡ register reg (drop i bytes)
register_all reg i bytes lt past = sym (register-nil reg lt) ∙ sym (at_drop_all (register reg) bytes i past)

-- without its first byte a list's numbers stand one place earlier
little_from-cons : (i n b : ℕ) (bytes : List ℕ) → little_from (suc i) n (b ∷ bytes) ≡ little_from i n bytes
little_from-cons i zero b bytes = refl
little_from-cons i (suc n) b bytes = ap (λ x. get_or bytes i 0 + 256 * x) (little_from-cons (suc i) n b bytes)

-- one byte goes through the register, and the others of its word move down
taken_byte : (reg b h : ℕ) → b < 256 → shifted_by 8 (bit_xor reg (b + 256 * h)) ≡ bit_xor (shifted_by 8 (bit_xor reg b)) h
taken_byte reg b h lt =
    ap (λ x. shifted_by 8 (bit_xor reg x)) (low_byte b h lt) ∙ ap (shifted_by 8) (sym (xor_assoc reg b (256 * h)))
    ∙ shifted_by-xor 8 (bit_xor reg b) (256 * h) ∙ ap (bit_xor (shifted_by 8 (bit_xor reg b))) (shifted_by-high 8 h)

-- n bytes are taken in as one number
pub register_number : (n reg : ℕ) (bytes : List ℕ) → reg < 2 ^ 32 → n ≤ length bytes → ((i : ℕ) → get_or bytes i 0 < 2 ^ 8)
    → register reg bytes ≡ register (shifted_by (8 * n) (bit_xor reg (little_number n bytes))) (drop n bytes)
unfolding shifted_by
register_number zero reg bytes lt le fits = ap (λ r. register r bytes) (sym (xor_zero_r reg))
register_number (suc n) reg [] lt le fits = absurd (omega arith)
register_number (suc n) reg (b ∷ bytes) lt le fits =
    let byte : b < 2 ^ 8 = fits 0 in
    let next = shifted_by 8 (bit_xor reg b) in
    let more : 8 + 8 * n ≡ 8 * suc n = omega arith in
    register-cons reg b bytes lt byte
    ∙ register_number n next bytes (shifted_by_lt 8 (bit_xor reg b) (xor_lt 32 reg b lt (omega arith))) (omega arith) (λ i. fits (suc i))
    ∙ ap (λ x. register (shifted_by (8 * n) x) (drop n bytes)) (
    sym (taken_byte reg b (little_number n bytes) (omega arith))
    ∙ ap (λ h. shifted_by 8 (bit_xor reg (b + 256 * h))) (sym (little_from-cons 0 n b bytes)))
    ∙ ap (λ x. register x (drop n bytes)) (sym (shifted_by-add 8 (8 * n) (bit_xor reg (little_number (suc n) (b ∷ bytes))))
    ∙ ap (λ k. shifted_by k (bit_xor reg (little_number (suc n) (b ∷ bytes)))) more)

-- a number and a register come down to a register
taken_lt : (size reg number : ℕ) → reg < 2 ^ 32 → number < 2 ^ 32 → shifted_by size (bit_xor reg number) < 2 ^ 32
taken_lt size reg number lt fits = shifted_by_lt size (bit_xor reg number) (xor_lt 32 reg number lt fits)

-- a register and numbers of 32 bits leave a register of 32 bits
pub after_lt : (size reg n : ℕ) (number : ℕ → ℕ) → reg < 2 ^ 32 → ((j : ℕ) → number j < 2 ^ 32) → after size reg n number < 2 ^ 32
unfolding after
after_lt size reg zero number lt fits = lt
after_lt size reg (suc n) number lt fits = taken_lt size (after size reg n number) (number n) (after_lt size reg n number lt fits) (fits n)

-- the first of some numbers is taken in
after_first : (size reg n : ℕ) (number : ℕ → ℕ) → after size reg (suc n) number ≡ after size (shifted_by size (bit_xor reg (number 0))) n (λ j. number (suc j))
unfolding after
after_first size reg zero number = refl
after_first size reg (suc n) number = ap (λ r. shifted_by size (bit_xor r (number (suc n)))) (after_first size reg n number)

-- all bytes of a piece are taken in
pub register_bytes : (reg : ℕ) (bytes : List ℕ) → reg < 2 ^ 32 → ((i : ℕ) → get_or bytes i 0 < 2 ^ 8) → register reg bytes
    ≡ after 8 reg (length bytes) (λ j. get_or bytes j 0)
unfolding after
register_bytes reg [] lt fits = register-nil reg lt
register_bytes reg (b ∷ bytes) lt fits =
    let byte : b < 2 ^ 8 = fits 0 in
    let next = shifted_by 8 (bit_xor reg b) in
    register-cons reg b bytes lt byte ∙ register_bytes next bytes (taken_lt 8 reg b lt (omega arith)) (λ i. fits (suc i))
    ∙ sym (after_first 8 reg (length bytes) (λ j. get_or (b ∷ bytes) j 0))

-- powers of 256
pub pow_bytes : (n : ℕ) → 2 ^ (8 * n) ≡ 256 ^ n
pow_bytes zero = refl
pow_bytes (suc n) =
    let sum : 8 * suc n ≡ 8 * n + 8 = omega arith in
    ap (λ k. 2 ^ k) sum ∙ pow-add 2 (8 * n) 8 ∙ ap (λ k. k * 256) (pow_bytes n) ∙ sym (pow-suc 256 n)

-- a number in the register goes into the first bytes
pub after_start : (n reg h : ℕ) (byte : ℕ → ℕ) → h < 256 ^ n → after 8 (bit_xor reg h) n byte ≡ after 8 reg n (λ j. bit_xor (byte j) (h / 256 ^ j % 256))
unfolding after
after_start zero reg h byte lt = let none : h ≡ 0 = omega arith in ap (bit_xor reg) none ∙ xor_zero_r reg
after_start (suc n) reg h byte lt =
    let low = h % 256 in
    let high = h / 256 in
    let parts : h ≡ low + 256 * high = omega arith in
    let less : high < 256 ^ n = omega (arith, pow-suc 256 n) in
    let sum = bit_xor reg (byte 0) in
    let next = shifted_by 8 (bit_xor sum low) in
    let first : bit_xor (bit_xor reg h) (byte 0) ≡ bit_xor sum h =
    xor_assoc reg h (byte 0) ∙ ap (bit_xor reg) (xor_comm h (byte 0)) ∙ sym (xor_assoc reg (byte 0) h) in
    let whole : h / 256 ^ 0 % 256 ≡ low = omega arith in
    after_first 8 (bit_xor reg h) n byte
    ∙ ap (λ r. after 8 r n (λ j. byte (suc j))) (ap (shifted_by 8) (first ∙ ap (bit_xor sum) parts) ∙ taken_byte sum low high (omega arith))
    ∙ after_start n next high (λ j. byte (suc j)) less
    ∙ (λ i. after 8 (shifted_by 8 ((xor_assoc reg (byte 0) low ∙ ap (λ x. bit_xor reg (bit_xor (byte 0) x)) (sym whole)) i)) n
    (λ j. bit_xor (byte (suc j)) (higher j i % 256)))
    ∙ sym (after_first 8 reg n (λ j. bit_xor (byte j) (h / 256 ^ j % 256)))
  where
    -- a number without its low byte, j places up, is the number j + 1 places up
    higher : (j : ℕ) → h / 256 / 256 ^ j ≡ h / 256 ^ suc j
    higher j = div-div-eq-div-mul h 256 (256 ^ j) ∙ ap (λ n. h / n) (mul_comm 256 (256 ^ j) ∙ sym (pow-suc 256 j))

-- a word of a list of bytes
pub word_fits : (bytes : List ℕ) (off : ℕ) → ((i : ℕ) → get_or bytes i 0 < 2 ^ 8) → number_at 4 off bytes < 2 ^ 32
word_fits bytes off fits =
    little_from-lt 0 4 (drop off bytes) (λ i. let P : ℕ → Type 0 = λ n. n < 256 in subst P (sym (get_or-drop off bytes i 0)) (fits (off + i)))

-- the first n words of a piece are taken in
pub register_words : (reg n : ℕ) (bytes : List ℕ) → reg < 2 ^ 32 → 4 * n ≤ length bytes → ((i : ℕ) → get_or bytes i 0 < 2 ^ 8)
    → register reg bytes ≡ register (after 32 reg n (λ j. number_at 4 (4 * j) bytes)) (drop (4 * n) bytes)
unfolding after
register_words reg zero bytes lt le fits = refl
register_words reg (suc n) bytes lt le fits =
    let word : ℕ → ℕ = λ j. number_at 4 (4 * j) bytes in
    let so_far = after 32 reg n word in
    let left = drop (4 * n) bytes in
    let next : 4 * n + 4 ≡ 4 * suc n = omega arith in
    register_words reg n bytes lt (omega arith) fits
    ∙ register_number 4 so_far left (after_lt 32 reg n word lt (λ j. word_fits bytes (4 * j) fits)) (omega (arith, length-drop (4 * n) bytes))
    (λ i. let P : ℕ → Type 0 = λ x. x < 256 in subst P (sym (get_or-drop (4 * n) bytes i 0)) (fits (4 * n + i)))
    ∙ ap (register (shifted_by 32 (bit_xor so_far (word n)))) (drop-drop 4 (4 * n) bytes ∙ ap (λ k. drop k bytes) next)

-- what is left of a list of bytes
pub left_fits : (bytes : List ℕ) (k : ℕ) → ((i : ℕ) → get_or bytes i 0 < 2 ^ 8) → (i : ℕ) → get_or (take (length bytes - k) (drop k bytes)) i 0 < 2 ^ 8
left_fits bytes k fits i =
    let P : ℕ → Type 0 = λ n. n < 2 ^ 8 in subst P (sym (ap (λ (l : List ℕ). get_or l i 0) (take_rest bytes k) ∙ get_or-drop k bytes i 0)) (fits (k + i))
