-- Blocks of bytes, lane by lane.
use Rattle.std.proofs.Common.{◌≡◌, ℕ, ◌+◌, ◌<◌, ◌≤◌, List, length, get_or, ap, ◌∙◌, arith}
use Rattle.std.specs.Int.Bits.{bit_xor, xor_assoc, xor_zero_r}
use lib.Lanes.{chunk, zip2}
use Rattle.std.proofs.lemmas.Simd.{length-zip2, get_or-zip2, length-chunk, get_or-chunk}
use Rattle.btr_base.specs.Fold.{far, near, gathered, sent}

-- a block of n bytes, lane by lane
pub record IsBlock (n : ℕ) (lane : ℕ → ℕ) (block : List ℕ) : Type 0 where
  pub long : length block ≡ n
  pub lanes : (i : ℕ) → i < n → get_or block i 0 ≡ lane i

-- the bytes from a place on
pub loaded : (n at : ℕ) (bytes block : List ℕ) → at + n ≤ length bytes → block ≡ chunk at n bytes → IsBlock n (λ i. get_or bytes (at + i) 0) block
loaded n at bytes block room e = record {
  long = ap length e ∙ length-chunk at n bytes room;
  lanes = λ i lt. ap (λ (l : List ℕ). get_or l i 0) e ∙ get_or-chunk at n bytes i 0 lt;
}

-- a sum of blocks
pub summed : (n : ℕ) (f g : ℕ → ℕ) (xs ys : List ℕ) → IsBlock n f xs → IsBlock n g ys → IsBlock n (λ i. bit_xor (f i) (g i)) (zip2 bit_xor xs ys)
summed n f g xs ys a b = record {
  long = length-zip2 bit_xor xs ys (omega (arith, a.long, b.long)) ∙ a.long;
  lanes = λ i lt. get_or-zip2 bit_xor xs ys i 0 0 0 (omega (arith, a.long)) (omega (arith, b.long)) ∙ (λ t. bit_xor (a.lanes i lt t) (b.lanes i lt t));
}

-- a sum of five numbers, in the grouping of what is gathered
five : (a b c d e : ℕ) → bit_xor (bit_xor (bit_xor (bit_xor a b) c) d) e ≡ bit_xor a (bit_xor b (bit_xor c (bit_xor d (bit_xor e 0))))
five a b c d e = simp (xor_assoc, xor_zero_r)

-- a sum of seven numbers, in the grouping of what is gathered
seven : (a b c d e f g : ℕ) → bit_xor (bit_xor (bit_xor (bit_xor (bit_xor (bit_xor a b) c) d) e) f) g
    ≡ bit_xor a (bit_xor b (bit_xor c (bit_xor d (bit_xor e (bit_xor f (bit_xor g 0))))))
seven a b c d e f g = simp (xor_assoc, xor_zero_r)

-- a block has any lanes that are equal to its own
pub relaned : (n : ℕ) (f g : ℕ → ℕ) (xs : List ℕ) → ((i : ℕ) → f i ≡ g i) → IsBlock n f xs → IsBlock n g xs
relaned n f g xs same a = record { long = a.long; lanes = λ i lt. a.lanes i lt ∙ same i }

-- the byte of a lane, by a place further on
abbrev lane : List ℕ → ℕ → ℕ → ℕ → ℕ
lane xs j e i = get_or xs (j + e + i) 0

-- a byte of a lane is found by its lane first as well as by its distance first
placed : (xs : List ℕ) (j e i : ℕ) → lane xs j e i ≡ get_or xs (j + i + e) 0
placed xs j e i = ap (λ k. get_or xs k 0) (omega arith)

-- what was sent from afar to a block
pub far_block : (n j : ℕ) (xs a b c d e : List ℕ) → j + 300 + n ≤ length xs
    → a ≡ chunk j n xs → b ≡ chunk (j + 154) n xs → c ≡ chunk (j + 198) n xs → d ≡ chunk (j + 214) n xs → e ≡ chunk (j + 300) n xs
    → IsBlock n (λ i. sent far xs (j + i)) (zip2 bit_xor (zip2 bit_xor (zip2 bit_xor (zip2 bit_xor a b) c) d) e)
unfolding gathered
far_block n j xs a b c d e room la lb lc ld le =
    let at : ℕ → ℕ → ℕ = lane xs j in
    let none : ℕ → ℕ = λ i. get_or xs (j + i) 0 in
    let two : ℕ → ℕ = λ i. bit_xor (none i) (at 154 i) in
    let three : ℕ → ℕ = λ i. bit_xor (two i) (at 198 i) in
    let four : ℕ → ℕ = λ i. bit_xor (three i) (at 214 i) in
    relaned n (λ i. bit_xor (four i) (at 300 i)) (λ i. sent far xs (j + i)) (zip2 bit_xor (zip2 bit_xor (zip2 bit_xor (zip2 bit_xor a b) c) d) e)
    (λ i. five (none i) (at 154 i) (at 198 i) (at 214 i) (at 300 i)
    ∙ (λ t. bit_xor (first i t) (bit_xor (placed xs j 154 i t)
    (bit_xor (placed xs j 198 i t) (bit_xor (placed xs j 214 i t) (bit_xor (placed xs j 300 i t) 0))))))
    (summed n four (at 300) (zip2 bit_xor (zip2 bit_xor (zip2 bit_xor a b) c) d) e
    (summed n three (at 214) (zip2 bit_xor (zip2 bit_xor a b) c) d
    (summed n two (at 198) (zip2 bit_xor a b) c
    (summed n none (at 154) a b (loaded n j xs a (omega arith) la) (loaded n (j + 154) xs b (omega arith) lb))
    (loaded n (j + 198) xs c (omega arith) lc))
    (loaded n (j + 214) xs d (omega arith) ld))
    (loaded n (j + 300) xs e room le))
  where
    -- a distance of 0 is no distance
    first : (i : ℕ) → get_or xs (j + i) 0 ≡ get_or xs (j + i + 0) 0
    first i = ap (λ k. get_or xs k 0) (omega arith)

-- what was sent by the nearer multiple to a block
pub near_block : (n j : ℕ) (xs a b c d e f g : List ℕ) → j + 144 + n ≤ length xs
    → a ≡ chunk j n xs → b ≡ chunk (j + 4) n xs → c ≡ chunk (j + 13) n xs → d ≡ chunk (j + 18) n xs → e ≡ chunk (j + 26) n xs → f ≡ chunk (j + 46) n xs
    → g ≡ chunk (j + 144) n xs
    → IsBlock n (λ i. sent near xs (j + i)) (zip2 bit_xor (zip2 bit_xor (zip2 bit_xor (zip2 bit_xor (zip2 bit_xor (zip2 bit_xor a b) c) d) e) f) g)
unfolding gathered
near_block n j xs a b c d e f g room la lb lc ld le lf lg =
    let at : ℕ → ℕ → ℕ = lane xs j in
    let none : ℕ → ℕ = λ i. get_or xs (j + i) 0 in
    let two : ℕ → ℕ = λ i. bit_xor (none i) (at 4 i) in
    let three : ℕ → ℕ = λ i. bit_xor (two i) (at 13 i) in
    let four : ℕ → ℕ = λ i. bit_xor (three i) (at 18 i) in
    let more : ℕ → ℕ = λ i. bit_xor (four i) (at 26 i) in
    let most : ℕ → ℕ = λ i. bit_xor (more i) (at 46 i) in
    let ab = zip2 bit_xor a b in
    let ac = zip2 bit_xor ab c in
    let ad = zip2 bit_xor ac d in
    let ae = zip2 bit_xor ad e in
    let af = zip2 bit_xor ae f in
    relaned n (λ i. bit_xor (most i) (at 144 i)) (λ i. sent near xs (j + i)) (zip2 bit_xor af g)
    (λ i. seven (none i) (at 4 i) (at 13 i) (at 18 i) (at 26 i) (at 46 i) (at 144 i)
    ∙ (λ t. bit_xor (first i t) (bit_xor (placed xs j 4 i t) (bit_xor (placed xs j 13 i t) (bit_xor (placed xs j 18 i t)
    (bit_xor (placed xs j 26 i t) (bit_xor (placed xs j 46 i t) (bit_xor (placed xs j 144 i t) 0))))))))
    (summed n most (at 144) af g
    (summed n more (at 46) ae f
    (summed n four (at 26) ad e
    (summed n three (at 18) ac d
    (summed n two (at 13) ab c
    (summed n none (at 4) a b (loaded n j xs a (omega arith) la) (loaded n (j + 4) xs b (omega arith) lb))
    (loaded n (j + 13) xs c (omega arith) lc))
    (loaded n (j + 18) xs d (omega arith) ld))
    (loaded n (j + 26) xs e (omega arith) le))
    (loaded n (j + 46) xs f (omega arith) lf))
    (loaded n (j + 144) xs g room lg))
  where
    first : (i : ℕ) → get_or xs (j + i) 0 ≡ get_or xs (j + i + 0) 0
    first i = ap (λ k. get_or xs k 0) (omega arith)
