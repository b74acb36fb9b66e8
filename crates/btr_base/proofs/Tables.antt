-- Tables of registers after zeros.
use Rattle.std.proofs.Common.{◌≡◌, ℕ, zero, suc, ◌+◌, ◌*◌, ◌/◌, ◌%◌, ◌^◌, ◌<◌, Bool, true, false, cond, eqb, List, [], ◌∷◌, length, get_or, refl, sym, ap, ◌∙◌}
use Rattle.std.proofs.Common.{arith}
use Rattle.std.specs.Int.Bits.{bit_xor, xor_assoc, xor_zero_r}
use Rattle.std.proofs.lemmas.Bool.Decides.{Decides-eqb}
use Rattle.std.proofs.lemmas.Nat.{pow-add, xor_comm}
use Rattle.std.proofs.Math.Nat.{div-div-eq-div-mul}
use Rattle.std.specs.Bool.{Decides}
use Rattle.btr_base.specs.Crc.{shifted_by}
use Rattle.btr_base.proofs.Linear.{shifted_by-xor, shifted_by-zero, shifted_by-add, shifted_byte_low}
use Rattle.btr_base.proofs.Multiple.{by_test}

-- each entry from an index on is what the function gives
abbrev pub fits_from : (ℕ → ℕ) → ℕ → List ℕ → Bool
fits_from f k [] = true
fits_from f k (x ∷ xs) = cond (eqb x (f k)) (fits_from f (k + 1) xs) false

-- where all entries fit a function, each entry is its value
pub entry_from : (f : ℕ → ℕ) (k : ℕ) (xs : List ℕ) (i : ℕ) → fits_from f k xs ≡ true → i < length xs → get_or xs i 0 ≡ f (k + i)
entry_from f k [] i fits lt = absurd (omega arith)
entry_from f k (x ∷ xs) zero fits lt = (by_test (eqb x (f k)) (fits_from f (k + 1) xs) (Decides-eqb x (f k)) fits).0 ∙ ap f (omega arith)
entry_from f k (x ∷ xs) (suc i) fits lt = entry_from f (k + 1) xs i (by_test (eqb x (f k)) (fits_from f (k + 1) xs) (Decides-eqb x (f k)) fits).1
    (omega arith) ∙ ap f (omega arith)

-- each table from a number on has 256 entries, the registers after that many bytes of zeros and one more
abbrev pub tables_from : ℕ → List (List ℕ) → Bool
tables_from n [] = true
tables_from n (t ∷ ts) = cond (eqb (length t) 256) (cond (fits_from (shifted_by (8 * (n + 1))) 0 t) (tables_from (n + 1) ts) false) false

-- an entry of a good table is the register of its index after the table's number of zero bytes and one more
pub table_from : (n : ℕ) (ts : List (List ℕ)) (k i : ℕ) → tables_from n ts ≡ true → k < length ts → i < 256 → get_or (get_or ts k []) i 0
    ≡ shifted_by (8 * (n + k + 1)) i
table_from n [] k i fits lt small = absurd (omega arith)
table_from n (t ∷ ts) zero i fits lt small =
    let sized =
    by_test (eqb (length t) 256) (cond (fits_from (shifted_by (8 * (n + 1))) 0 t) (tables_from (n + 1) ts) false) (Decides-eqb (length t) 256) fits in
    let long : i < length t = omega (arith, sized.0) in
    entry_from (shifted_by (8 * (n + 1))) 0 t i (front (fits_from (shifted_by (8 * (n + 1))) 0 t) (tables_from (n + 1) ts) sized.1) long
    ∙ ap (shifted_by (8 * (n + 1))) (omega arith) ∙ ap (λ m. shifted_by (8 * (m + 1)) i) (omega arith)
  where
    -- of two tests that hold the first holds
    front : (b c : Bool) → cond b c false ≡ true → b ≡ true
    front true c e = refl
    front false c e = absurd (cc (e))
table_from n (t ∷ ts) (suc k) i fits lt small =
    let sized =
    by_test (eqb (length t) 256) (cond (fits_from (shifted_by (8 * (n + 1))) 0 t) (tables_from (n + 1) ts) false) (Decides-eqb (length t) 256) fits in
    table_from (n + 1) ts k i (behind (fits_from (shifted_by (8 * (n + 1))) 0 t) (tables_from (n + 1) ts) sized.1) (omega arith) small
    ∙ ap (λ m. shifted_by (8 * (m + 1)) i) (omega arith)
  where
    -- of two tests that hold the second holds
    behind : (b c : Bool) → cond b c false ≡ true → c ≡ true
    behind true c e = e
    behind false c e = absurd (cc (e))

-- the low byte of a word goes through more zeros than the rest
split_byte : (n m x : ℕ) → n ≡ m + 1 → shifted_by (8 * n) x ≡ bit_xor (shifted_by (8 * n) (x % 256)) (shifted_by (8 * m) (x / 256))
split_byte n m x next =
    let sum : 8 * n ≡ 8 + 8 * m = omega (arith, next) in
    let low = shifted_by 8 (x % 256) in
    ap (λ k. shifted_by k x) sum ∙ shifted_by-add 8 (8 * m) x ∙ ap (shifted_by (8 * m)) (shifted_byte_low x) ∙ shifted_by-xor (8 * m) low (x / 256)
    ∙ ap (λ y. bit_xor y (shifted_by (8 * m) (x / 256))) (sym (shifted_by-add 8 (8 * m) (x % 256)) ∙ ap (λ k. shifted_by k (x % 256)) (sym sum))

-- the byte k places up, and what is behind it
next_byte : (n m k x : ℕ) → n ≡ m + 1 → shifted_by (8 * n) (x / 2 ^ k) ≡ bit_xor (shifted_by (8 * n) (x / 2 ^ k % 256)) (shifted_by (8 * m) (x / 2 ^ (k + 8)))
next_byte n m k x next = split_byte n m (x / 2 ^ k) next ∙ ap (λ y. bit_xor (shifted_by (8 * n) (x / 2 ^ k % 256)) (shifted_by (8 * m) y)) (halves k)
  where
    -- dropping k bits and a byte is dropping k + 8 bits
    halves : (k : ℕ) → x / 2 ^ k / 256 ≡ x / 2 ^ (k + 8)
    halves k = div-div-eq-div-mul x (2 ^ k) 256 ∙ ap (λ d. x / d) (sym (pow-add 2 k 8))

-- the sum of the bytes from the last one on
turned : (a b c d : ℕ) → bit_xor (bit_xor (bit_xor d c) b) a ≡ bit_xor a (bit_xor b (bit_xor c d))
turned a b c d =
    xor_comm (bit_xor (bit_xor d c) b) a ∙ ap (bit_xor a) (xor_comm (bit_xor d c) b ∙ ap (bit_xor b) (xor_comm d c))

-- a word goes through byte by byte, with n bytes of zeros behind it
by_bytes : (n x : ℕ) → x < 2 ^ 32 → bit_xor (bit_xor (bit_xor
    (shifted_by (8 * (n + 1)) (x / 2 ^ 24 % 256)) (shifted_by (8 * (n + 1 + 1)) (x / 2 ^ 16 % 256)))
    (shifted_by (8 * (n + 2 + 1)) (x / 2 ^ 8 % 256))) (shifted_by (8 * (n + 3 + 1)) (x % 256))
    ≡ shifted_by (8 * (n + 3 + 1)) x
by_bytes n x lt =
    let none : x / 2 ^ 32 ≡ 0 = omega arith in
    let at : ℕ → ℕ → ℕ = λ m k. shifted_by (8 * m) (x / 2 ^ k % 256) in
    let low = shifted_by (8 * (n + 3 + 1)) (x % 256) in
    let first : n + 3 + 1 ≡ n + 2 + 1 + 1 = omega arith in
    let second : n + 2 + 1 ≡ n + 1 + 1 + 1 = omega arith in
    turned low (at (n + 2 + 1) 8) (at (n + 1 + 1) 16) (at (n + 1) 24)
    ∙ sym (split_byte (n + 3 + 1) (n + 2 + 1) x first ∙ ap (bit_xor low) (next_byte (n + 2 + 1) (n + 1 + 1) 8 x second
    ∙ ap (bit_xor (at (n + 2 + 1) 8)) (next_byte (n + 1 + 1) (n + 1) 16 x refl ∙ ap (bit_xor (at (n + 1 + 1) 16)) (next_byte (n + 1) n 24 x refl
    ∙ ap (λ y. bit_xor (at (n + 1) 24) (shifted_by (8 * n) y)) none ∙ ap (bit_xor (at (n + 1) 24)) (shifted_by-zero (8 * n)) ∙ xor_zero_r (at (n + 1) 24)))))

-- the same, by words of zeros
pub word_by_bytes : (z x : ℕ) → x < 2 ^ 32 → bit_xor (bit_xor (bit_xor
    (shifted_by (8 * (4 * z + 1)) (x / 2 ^ 24 % 256)) (shifted_by (8 * (4 * z + 1 + 1)) (x / 2 ^ 16 % 256)))
    (shifted_by (8 * (4 * z + 2 + 1)) (x / 2 ^ 8 % 256))) (shifted_by (8 * (4 * z + 3 + 1)) (x % 256))
    ≡ shifted_by (32 * (z + 1)) x
word_by_bytes z x lt = let whole : 8 * (4 * z + 3 + 1) ≡ 32 * (z + 1) = omega arith in by_bytes (4 * z) x lt ∙ ap (λ k. shifted_by k x) whole

-- a word behind a register, with m bits of zeros behind by_test
taken : (m reg word : ℕ) → bit_xor (shifted_by (32 + m) reg) (shifted_by m word) ≡ shifted_by m (bit_xor (shifted_by 32 reg) word)
taken m reg word = ap (λ r. bit_xor r (shifted_by m word)) (shifted_by-add 32 m reg) ∙ sym (shifted_by-xor m (shifted_by 32 reg) word)

-- four words, of which each is taken in by itself
pub four_taken : (a b c d : ℕ) → bit_xor (bit_xor (bit_xor (shifted_by 32 d) (shifted_by 64 c)) (shifted_by 96 b)) (shifted_by 128 a)
    ≡ shifted_by 32 (bit_xor (shifted_by 32 (bit_xor (shifted_by 32 (bit_xor (shifted_by 32 a) b)) c)) d)
four_taken a b c d =
    let x = bit_xor (shifted_by 32 a) b in
    let y = bit_xor (shifted_by 32 x) c in
    turned (shifted_by 128 a) (shifted_by 96 b) (shifted_by 64 c) (shifted_by 32 d)
    ∙ sym (xor_assoc (shifted_by 128 a) (shifted_by 96 b) (bit_xor (shifted_by 64 c) (shifted_by 32 d)))
    ∙ sym (xor_assoc (bit_xor (shifted_by 128 a) (shifted_by 96 b)) (shifted_by 64 c) (shifted_by 32 d))
    ∙ ap (λ r. bit_xor (bit_xor r (shifted_by 64 c)) (shifted_by 32 d)) (taken 96 a b)
    ∙ ap (λ r. bit_xor r (shifted_by 32 d)) (taken 64 x c)
    ∙ taken 32 y d
