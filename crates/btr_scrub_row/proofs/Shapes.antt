-- How many elements a row has, and which parts they are.
use Rattle.std.proofs.Common.{◌≡◌, ℕ, ◌+◌, ◌<◌, ◌≤◌, ◌==◌, true, cond, length, None, sym, ap, ◌∙◌, subst, inl, inr, arith, refl}
use Rattle.btr_scrub_row.proofs.Common.{HasParity, IsChunk, P, Parity, Profile, Q, Row, Slice, data_count, element_count, element_of, mirrors, parities}
use Rattle.btr_scrub_row.proofs.Common.{part_at, part_of, slice_count, without_copies}
use Rattle.std.proofs.lemmas.Bool.{eq-eqb, ne_eqb, leb-true, le-ltb, lt-ltb}
use Rattle.btr_chunk.specs.Chunk.{has_count, mirror_count}
use Rattle.btr_chunk.proofs.Rule.{facts}
use Rattle.btr_read.specs.declared.parity.Parity.TheVariants as parity

-- the counts of a profile with parity
pub record Counted (p : Profile) (n : ℕ) : Type 0 where
  pub whole : data_count p n + length (parities p) ≡ n
  pub some : 0 < data_count p n
  pub few : 1 ≤ length (parities p)

-- a profile with parity has its slices and one or two parities
pub counted : (p : Profile) (n : ℕ) → mirror_count p n ≡ None → has_count p n ≡ true → Counted p n
counted p n none has = elim (without_copies p n none) [
  | inl five ↦ let two : 2 ≤ n = leb-true 2 n (subst (λ p. has_count p n ≡ true) five has) in
      subst (λ p. Counted p n) (sym five) (record { whole = omega (arith, two); some = omega (arith, two); few = omega arith })
  | inr six ↦ let three : 3 ≤ n = leb-true 3 n (subst (λ p. has_count p n ≡ true) six has) in
      subst (λ p. Counted p n) (sym six) (record { whole = omega (arith, three); some = omega (arith, three); few = omega arith })
]

-- so has a row of a chunk that keeps the rule
pub row_counted : (row : Row) → mirrors row.chunk ≡ None → IsChunk row.chunk → Counted row.chunk.profile (length row.chunk.stripes)
row_counted row none is = counted row.chunk.profile (length row.chunk.stripes) none (facts row.chunk is).count

-- the parts by number
pub part_slice : (k e : ℕ) → e < k → part_at k e ≡ Slice e
part_slice k e lt = ap (λ b. cond b (Slice e) (cond (e == k) P Q)) (lt-ltb e k lt)

-- the one behind them is P
pub part_p : (k e : ℕ) → e ≡ k → part_at k e ≡ P
part_p k e same = ap (λ b. cond b (Slice e) (cond (e == k) P Q)) (le-ltb e k (omega (arith, same))) ∙ ap (λ b. cond b P Q) (eq-eqb e k same)

-- those behind P are Q
pub part_q : (k e : ℕ) → k < e → part_at k e ≡ Q
part_q k e lt = ap (λ b. cond b (Slice e) (cond (e == k) P Q)) (le-ltb e k (omega (arith, lt)))
    ∙ ap (λ b. cond b P Q) (ne_eqb e k (λ same. absurd (omega (arith, same, lt))))

-- a parity of a row comes behind its slices
pub parity_at : (row : Row) → mirrors row.chunk ≡ None → IsChunk row.chunk → (p : Parity) → HasParity row.chunk.profile p
    → (element_of p (slice_count row) < element_count row) × (part_at (slice_count row) (element_of p (slice_count row)) ≡ part_of p)
parity_at row none is parity.P has = let count = row_counted row none is in (omega (arith, count.few), part_p (slice_count row) (slice_count row) refl)
parity_at row none is parity.Q has =
    let two : length (parities row.chunk.profile) ≡ 2 = ap (λ p. length (parities p)) has in
    (omega (arith, two), part_q (slice_count row) (slice_count row + 1) (omega arith))
