-- The register behind a sector, by its checksum.
use Rattle.std.proofs.Common.{◌≡◌, ◌≢◌, ℕ, zero, suc, ◌+◌, ◌*◌, ◌-◌, ◌/◌, ◌%◌, ◌^◌, ◌<◌, ◌≤◌, inl, inr, List, length, get_or, take, drop, replicate}
use Rattle.std.proofs.Common.{refl, sym, ap, ◌∙◌, arith, length-drop}
use Rattle.std.specs.Int.Bits.{bit_xor, xor_assoc, xor_self, xor_zero_l, xor_zero_r}
use Rattle.std.proofs.lemmas.Bool.{cases_lt}
use Rattle.std.proofs.lemmas.List.{length-replicate, length-take, get_or-take, get_or-drop, get_or_past}
use Rattle.std.proofs.lemmas.Nat.{mod-pow-add, pow_pos, xor_block, xor_comm}
use Rattle.std.proofs.Math.Nat.{mod-lt}
use Rattle.btr_base.specs.Crc.{crc32c, register, shifted_by}
use Rattle.btr_base.specs.Fold.{after}
use Rattle.btr_base.proofs.Ahead.{after-more, after-same, after-zeros}
use Rattle.btr_base.proofs.Behind.{zeros_at}
use Rattle.btr_base.proofs.Linear.{shifted_by-xor, shifted_by-add}
use Rattle.btr_base.proofs.Words.{after_lt, register_bytes}

shifted_none : (a : ℕ) → shifted_by 0 a ≡ a
unfolding shifted_by
shifted_none a = refl

-- a sum of registers: one goes through zeros, the other through the bytes
after_sum : (n a b : ℕ) (u : ℕ → ℕ) → after 8 (bit_xor a b) n u ≡ bit_xor (shifted_by (8 * n) a) (after 8 b n u)
unfolding after
after_sum zero a b u = ap (λ x. bit_xor x b) (sym (shifted_none a))
after_sum (suc n) a b u =
    let sum : 8 * n + 8 ≡ 8 * suc n = omega arith in
    let low = shifted_by (8 * n) a in
    let high = after 8 b n u in
    ap (λ r. shifted_by 8 (bit_xor r (u n))) (after_sum n a b u) ∙ ap (shifted_by 8) (xor_assoc low high (u n)) ∙ shifted_by-xor 8 low (bit_xor high (u n))
    ∙ ap (λ x. bit_xor x (shifted_by 8 (bit_xor high (u n)))) (sym (shifted_by-add (8 * n) 8 a) ∙ ap (λ k. shifted_by k a) sum)

-- a register after a sector of zeros
pub register_zeros : (reg : ℕ) (bytes : List ℕ) → reg < 2 ^ 32 → bytes ≡ replicate 4096 0 → register reg bytes ≡ shifted_by 32768 reg
register_zeros reg bytes lt is =
    let long : length bytes ≡ 4096 = ap (λ (l : List ℕ). length l) is ∙ length-replicate {A = ℕ} 4096 0 in
    register_bytes reg bytes lt (λ i. omega (arith, zeros_at 4096 bytes i is)) ∙ ap (λ n. after 8 reg n (λ j. get_or bytes j 0)) long
    ∙ after-same reg 4096 (λ j. get_or bytes j 0) (λ j. 0) (λ j small. zeros_at 4096 bytes j is)
    ∙ ap (λ r. after 8 r 4096 (λ j. 0)) (sym (xor_zero_r reg)) ∙ after_sum 4096 reg 0 (λ j. 0)
    ∙ ap (bit_xor (shifted_by 32768 reg)) (after-zeros 4096) ∙ xor_zero_r (shifted_by 32768 reg)

-- a register after any sector, from that after it from a register of ones
pub register_joined : (reg crc : ℕ) (bytes : List ℕ) → reg < 2 ^ 32 → ((i : ℕ) → get_or bytes i 0 < 2 ^ 8) → length bytes ≡ 4096 → crc ≡ crc32c bytes
    → bit_xor (shifted_by 32768 (bit_xor reg 4294967295)) (4294967295 - crc) ≡ register reg bytes
register_joined reg crc bytes lt are_bytes long is =
    let u : ℕ → ℕ = λ j. get_or bytes j 0 in
    let ones : ℕ = 4294967295 in
    let other = bit_xor reg ones in
    let whole : register ones bytes ≡ after 8 ones 4096 u = register_bytes ones bytes (omega arith) are_bytes ∙ ap (λ n. after 8 ones n u) long in
    let small : after 8 ones 4096 u < 2 ^ 32 = after_lt 8 ones 4096 u (omega arith) (λ j. omega (arith, are_bytes j)) in
    let own : 4294967295 - crc ≡ after 8 ones 4096 u = omega (arith, is, whole, small) in
    let twice : bit_xor other ones ≡ reg = xor_assoc reg ones ones ∙ ap (bit_xor reg) (xor_self ones) ∙ xor_zero_r reg in
    ap (bit_xor (shifted_by 32768 other)) own ∙ sym (after_sum 4096 other ones u) ∙ ap (λ r. after 8 r 4096 u) twice
    ∙ sym (register_bytes reg bytes lt are_bytes ∙ ap (λ n. after 8 reg n u) long)

-- the bits below a place, with the one at it
bits_more : (x i : ℕ) → x % 2 ^ (1 + i) ≡ bit_xor (x / 2 ^ i % 2 * 2 ^ i) (x % 2 ^ i)
bits_more x i =
    let q = x / 2 ^ i % 2 in
    let r = x % 2 ^ i in
    let whole : q * 2 ^ i ≡ q * 2 ^ i + 0 = omega arith in
    let low : r ≡ 0 * 2 ^ i + r = omega arith in
    mod-pow-add x 1 i
    ∙ sym (ap (λ y. bit_xor y r) whole ∙ ap (bit_xor (q * 2 ^ i + 0)) low ∙ xor_block i q 0 0 r some (mod-lt x some)
    ∙ (λ k. xor_zero_r q k * 2 ^ i + xor_zero_l r k))
  where
    some : 0 < 2 ^ i
    some = pow_pos i

-- one bit more goes through a sector of zeros
pub bit_in : (x i sum word : ℕ) → sum ≡ shifted_by 32768 (x % 2 ^ i) → word ≡ shifted_by 32768 (2 ^ i) → x / 2 ^ i % 2 ≡ 1
    → bit_xor sum word ≡ shifted_by 32768 (x % 2 ^ (i + 1))
bit_in x i sum word is own one =
    let r = x % 2 ^ i in
    let once : x / 2 ^ i % 2 * 2 ^ i ≡ 2 ^ i = ap (λ q. q * 2 ^ i) one ∙ omega arith in
    let next : 1 + i ≡ i + 1 = omega arith in
    ap (λ s. bit_xor s word) is ∙ ap (bit_xor (shifted_by 32768 r)) own ∙ xor_comm (shifted_by 32768 r) (shifted_by 32768 (2 ^ i))
    ∙ sym (shifted_by-xor 32768 (2 ^ i) r)
    ∙ ap (shifted_by 32768) (ap (λ y. bit_xor y r) (sym once) ∙ sym (bits_more x i) ∙ ap (λ k. x % 2 ^ k) next)

-- a bit that isn't there adds nothing
pub bit_out : (x i sum : ℕ) → sum ≡ shifted_by 32768 (x % 2 ^ i) → x / 2 ^ i % 2 ≢ 1 → sum ≡ shifted_by 32768 (x % 2 ^ (i + 1))
bit_out x i sum is none =
    let r = x % 2 ^ i in
    let zero_bit : x / 2 ^ i % 2 ≡ 0 = omega (arith, none) in
    let next : 1 + i ≡ i + 1 = omega arith in
    let nothing : x / 2 ^ i % 2 * 2 ^ i ≡ 0 = ap (λ q. q * 2 ^ i) zero_bit ∙ omega arith in
    is ∙ ap (shifted_by 32768) (sym (xor_zero_l r) ∙ ap (λ y. bit_xor y r) (sym nothing) ∙ sym (bits_more x i) ∙ ap (λ k. x % 2 ^ k) next)

-- the register after all bytes, by those after the first of them
pub register_parted : (reg n : ℕ) (bytes : List ℕ) → reg < 2 ^ 32 → ((i : ℕ) → get_or bytes i 0 < 2 ^ 8) → n ≤ length bytes
    → register (register reg (take n bytes)) (drop n bytes) ≡ register reg bytes
register_parted reg n bytes lt are_bytes within =
    let u : ℕ → ℕ = λ j. get_or bytes j 0 in
    let front = take n bytes in
    let k = length (drop n bytes) in
    let first : register reg front ≡ after 8 reg n u =
    register_bytes reg front lt (λ i. take_fits i) ∙ ap (λ m. after 8 reg m (λ j. get_or front j 0)) (omega (arith, length-take n bytes, within))
    ∙ after-same reg n (λ j. get_or front j 0) u (λ j small. get_or-take n bytes j 0 small) in
    let small : register reg front < 2 ^ 32 = omega (arith, first, after_lt 8 reg n u lt (λ j. omega (arith, are_bytes j))) in
    register_bytes (register reg front) (drop n bytes) small (λ i. omega (arith, get_or-drop n bytes i 0, are_bytes (n + i)))
    ∙ ap (λ r. after 8 r k (λ j. get_or (drop n bytes) j 0)) first
    ∙ after-same (after 8 reg n u) k (λ j. get_or (drop n bytes) j 0) (λ j. u (j + n)) (λ j lower. get_or-drop n bytes j 0 ∙ ap u (omega arith))
    ∙ sym (after-more reg n k u) ∙ ap (λ m. after 8 reg m u) (omega (arith, length-drop n bytes, within))
    ∙ sym (register_bytes reg bytes lt are_bytes)
  where
    -- the first of some bytes are bytes
    take_fits : (i : ℕ) → get_or (take n bytes) i 0 < 2 ^ 8
    take_fits i = elim (cases_lt i n) [
      | inl below ↦ omega (arith, get_or-take n bytes i 0 below, are_bytes i)
      | inr past ↦ omega (arith, get_or_past (take n bytes) i 0 (omega (arith, length-take n bytes)))
    ]
