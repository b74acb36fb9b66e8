-- A parity less the slices that a candidate reads, from the bytes in memory.
use Rattle.std.proofs.Common.{◌≡◌, ℕ, ◌+◌, ◌*◌, ◌-◌, ◌<◌, ◌≤◌, true, false, List, length, drop, slice_range, sym, ap, ◌∙◌, subst, arith}
use Rattle.btr_scrub_row.proofs.Common.{Candidate, GatheredSoFar, HasParity, Images, IsInMemory, IsSlice, Parity, Slice, SlicePiece, Target, element_of}
use Rattle.btr_scrub_row.proofs.Common.{part_of, plus, reads_slice, size_of}
use Rattle.std.proofs.lemmas.List.Elements.{All-take, All-drop}
use Rattle.std.specs.List.{All}
use Rattle.btr_read.specs.Gathering.{weighed}
use Rattle.btr_read.specs.Candidates.{slice_count, element}
use Rattle.btr_read.proofs.Pieces.{length-slice_range}
use Rattle.btr_read.proofs.Sums.{gathered_more, gathered_none, gathered_past}
use Rattle.btr_scrub_row.specs.Memory.{FitsIn}
use Rattle.btr_read.specs.declared.parity.Parity.TheVariants as parity

-- some bytes in memory
pub cut_slice : (bytes : List ℕ) (a n : ℕ) → All (λ b. b < 256) bytes → a + n ≤ length bytes → IsSlice n (slice_range bytes a (a + n))
cut_slice bytes a n all le = record {
  long = omega (arith, length-slice_range bytes a (a + n) le);
  bytes = All-take (λ b. b < 256) (a + n - a) (drop a bytes) (All-drop (λ b. b < 256) a bytes all);
}

-- ---- in memory

-- where a part of an element lies
pub start_in : (bytes : List ℕ) (piece : SlicePiece) (p : Parity) → FitsIn bytes piece → HasParity piece.shape.profile p
    → element_of p piece.shape.slices * 65536 + piece.rest + piece.len ≤ length bytes
start_in bytes piece parity.P fits has = omega (arith, fits.p, fits.inside)
start_in bytes piece parity.Q fits has = omega (arith, fits.q has, fits.inside)

module _ (images : Images) (t : Target) (piece : SlicePiece) (bytes : List ℕ) (all : All (λ b. b < 256) bytes) (fits : FitsIn bytes piece)
    (h : IsInMemory images t piece bytes) (c : Candidate) (p : Parity) where
  -- the bytes at the block's place in the parity's element are those that the images hold
  its_element : HasParity piece.shape.profile p → slice_range bytes (element_of p piece.shape.slices * 65536 + piece.rest)
      (element_of p piece.shape.slices * 65536 + piece.rest + piece.len) ≡ element images t (part_of p)
  its_element = of p
    where
      of : (p : Parity) → HasParity piece.shape.profile p → slice_range bytes (element_of p piece.shape.slices * 65536 + piece.rest)
          (element_of p piece.shape.slices * 65536 + piece.rest + piece.len) ≡ element images t (part_of p)
      of parity.P has = ap (λ n. slice_range bytes (n * 65536 + piece.rest) (n * 65536 + piece.rest + piece.len)) h.place.slices ∙ h.block.p
      of parity.Q has = ap (λ n. slice_range bytes ((n + 1) * 65536 + piece.rest) ((n + 1) * 65536 + piece.rest + piece.len)) h.place.slices
          ∙ h.block.q (sym h.place.profile ∙ has)

  -- bytes as long as the block are a slice of its size
  sized : (a : ℕ) → a + piece.len ≤ length bytes → IsSlice (size_of t) (slice_range bytes a (a + piece.len))
  sized a le = subst (λ n. IsSlice n (slice_range bytes a (a + piece.len))) h.place.len (cut_slice bytes a piece.len all le)

  -- the parity was copied
  pub left_begun : (start : ℕ) (sum : List ℕ) → HasParity piece.shape.profile p → start ≡ element_of p piece.shape.slices * 65536 + piece.rest → sum
      ≡ slice_range bytes start (start + piece.len) → GatheredSoFar images t c p 0 sum
  left_begun start sum has at e =
      let is : sum ≡ slice_range bytes (element_of p piece.shape.slices * 65536 + piece.rest)
      (element_of p piece.shape.slices * 65536 + piece.rest + piece.len) = e ∙ ap (λ a. slice_range bytes a (a + piece.len)) at in
      gathered_none images t c p sum (is ∙ its_element has) (subst (IsSlice (size_of t)) (sym is)
      (sized (element_of p piece.shape.slices * 65536 + piece.rest) (start_in bytes piece p fits has)))

  -- one more slice was added
  pub left_more : (k start : ℕ) (old new : List ℕ) → k < piece.shape.slices → GatheredSoFar images t c p k old → reads_slice piece.index c k ≡ true → start
      ≡ k * 65536 + piece.rest → new ≡ plus old (weighed p k (slice_range bytes start (start + piece.len))) → GatheredSoFar images t c p (k + 1) new
  left_more k start old new lt so_far reads at e =
      let below : k < slice_count t = omega (arith, lt, h.place.slices) in
      let is : slice_range bytes start (start + piece.len) ≡ element images t (Slice k) =
      ap (λ a. slice_range bytes a (a + piece.len)) at ∙ h.block.slices k below in
      let reads' : reads_slice t.at.index c k ≡ true = subst (λ i. reads_slice i c k ≡ true) h.place.index reads in
      let slice : IsSlice (size_of t) (element images t (Slice k)) =
      subst (IsSlice (size_of t)) is (sized start (omega (arith, at, lt, fits.p, fits.inside))) in
      gathered_more images t c p k old new so_far reads' slice (e ∙ ap (λ d. plus old (weighed p k d)) is)

  -- or it isn't read
  pub left_same : (k : ℕ) (old : List ℕ) → GatheredSoFar images t c p k old → reads_slice piece.index c k ≡ false → GatheredSoFar images t c p (k + 1) old
  left_same k old so_far reads = gathered_past images t c p k old so_far (subst (λ i. reads_slice i c k ≡ false) h.place.index reads)
