-- xxhash64, a piece at a time.
use Rattle.std.proofs.Common.{◌≡◌, ℕ, zero, suc, ◌+◌, ◌*◌, ◌/◌, ◌≤◌, ◌<◌, List, [], ◌∷◌, length, map, fold, drop, refl, sym, ◌∙◌, ap, arith, length-drop}
use Rattle.std.specs.List.{range_with_len}
use Rattle.std.proofs.lemmas.List.{drop-drop}
use Rattle.std.proofs.Math.Nat.{mul-add, mul-one}
use Rattle.btr_base.specs.Field.{number_at}
use Rattle.btr_base.specs.Xxh64.{rounded, numbers_every, lane, with_eight, with_few, with_bytes}

-- what stands at the numbers from a + 1 on is what stands behind those from a on
later : (f g : ℕ → ℕ) → ((t : ℕ) → f (t + 1) ≡ g t) → (a n : ℕ) → map f (range_with_len (a + 1) n) ≡ map g (range_with_len a n)
later f g same a zero = refl
later f g same a (suc n) = λ i. same a i ∷ later f g same (a + 1) n i

-- the first number, and those behind the first step
numbers_more : (step off : ℕ) (bytes : List ℕ) → length bytes / step ≡ suc (length (drop step bytes) / step) → numbers_every step off bytes
    ≡ number_at 8 off bytes ∷ numbers_every step off (drop step bytes)
unfolding numbers_every
numbers_more step off bytes steps =
    let at : ℕ → ℕ = λ t. number_at 8 (step * t + off) bytes in
    let behind : ℕ → ℕ = λ t. number_at 8 (step * t + off) (drop step bytes) in
    let first : step * 0 + off ≡ off = omega arith in
    let moved : (t : ℕ) → at (t + 1) ≡ behind t =
    λ t. ap (λ k. number_at 8 k bytes) (next t) ∙ ap (λ (l : List ℕ). number_at 8 0 l) (sym (drop-drop (step * t + off) step bytes)) in
    ap (λ n. map at (range_with_len 0 n)) steps
    ∙ (λ i. number_at 8 (first i) bytes ∷ later at behind moved 0 (length (drop step bytes) / step) i)
  where
    next : (t : ℕ) → step * (t + 1) + off ≡ step + (step * t + off)
    next t = omega (arith, mul-add step t 1, mul-one step)

-- bytes fewer than a step have no numbers
numbers_none : (step off : ℕ) (bytes : List ℕ) → length bytes / step ≡ 0 → numbers_every step off bytes ≡ []
unfolding numbers_every
numbers_none step off bytes none = ap (λ n. map (λ t. number_at 8 (step * t + off) bytes) (range_with_len 0 n)) none

-- a lane takes in the first of its numbers
pub lane_more : (start off : ℕ) (bytes : List ℕ) → 32 ≤ length bytes → lane start off bytes ≡ lane (rounded start (number_at 8 off bytes)) off (drop 32 bytes)
unfolding lane
lane_more start off bytes wide = ap (fold rounded start) (numbers_more 32 off bytes (omega (arith, length-drop 32 bytes)))

-- a lane without numbers is its start
pub lane_none : (start off : ℕ) (bytes : List ℕ) → length bytes < 32 → lane start off bytes ≡ start
unfolding lane
lane_none start off bytes few = ap (fold rounded start) (numbers_none 32 off bytes (omega arith))

-- the first 8 bytes
pub with_bytes_more : (hash : ℕ) (bytes : List ℕ) → 8 ≤ length bytes → with_bytes hash bytes ≡ with_bytes (with_eight hash (number_at 8 0 bytes)) (drop 8 bytes)
unfolding with_bytes
with_bytes_more hash bytes wide =
    let rest = drop 8 bytes in
    let behind : 8 * (length bytes / 8) ≡ 8 + 8 * (length rest / 8) = omega (arith, length-drop 8 bytes) in
    (λ i. with_few (fold with_eight hash (numbers_more 8 0 bytes (omega (arith, length-drop 8 bytes)) i)) (drop (behind i) bytes))
    ∙ ap (with_few (fold with_eight (with_eight hash (number_at 8 0 bytes)) (numbers_every 8 0 rest))) (sym (drop-drop (8 * (length rest / 8)) 8 bytes))

-- fewer than 8 bytes
pub with_bytes_few : (hash : ℕ) (bytes : List ℕ) → length bytes < 8 → with_bytes hash bytes ≡ with_few hash bytes
unfolding with_bytes
with_bytes_few hash bytes few =
    let none : length bytes / 8 ≡ 0 = omega arith in
    λ i. with_few (fold with_eight hash (numbers_none 8 0 bytes none i)) (drop (8 * none i) bytes)
