-- Parities less the slices that are read.
use Rattle.std.proofs.Common.{◌≡◌, ℕ, zero, suc, ◌+◌, true, false, cond, List, [], ◌∷◌, ◌++◌, length, map, refl, sym, ap, ◌∙◌, subst, arith}
use Rattle.std.proofs.lemmas.List.Elements.{All-append}
use Rattle.std.proofs.lemmas.List.FromFn.{map-range_with_len_more, length-map-range_with_len}
use Rattle.std.specs.List.{range_with_len, All}
use Rattle.btr_chunk.specs.declared.place.Part.TheVariants.{Slice}
use Rattle.btr_parity.specs.Field.{power}
use Rattle.btr_parity.specs.Slices.{IsSlice, zeros, plus, scaled, parity_q}
use Rattle.btr_parity.proofs.Lost.{plus_assoc, plus-zeros, scaled-zeros, zeros_slice, parity_p_slice, weighted_slice}
use Rattle.btr_parity.proofs.Folding.{parity_by_folding}
use Rattle.btr_read.specs.declared.candidate.Candidate.{Candidate}
use Rattle.btr_read.specs.declared.parity.Parity.{Parity}
use Rattle.btr_read.specs.declared.parity.Parity.TheVariants as parity
use Rattle.btr_read.specs.Candidates.{Target, size_of, slice_count, reads_slice, element}
use Rattle.btr_read.specs.Gathering.{part_of, weighed, parity_of, IsGathered}

-- what holds of an entry holds of all of a list that has only it
all_one : {X : Type 0} (P : X → Type 0) (x : X) → P x → All P (x ∷ [])
all_one P x h zero d lt = h
all_one P x h (suc k) d lt = absurd (omega (arith, lt))

-- the parity of slices is as long as each of them
pub parity_long : (p : Parity) (size : ℕ) (ds : List (List ℕ)) → All (IsSlice size) ds → length (parity_of p size ds) ≡ size
parity_long parity.P size ds h = let s = parity_p_slice size ds h in s.long
parity_long parity.Q size ds h = let s = weighted_slice size 0 ds h in s.long

-- a parity less no slices is the parity
of_none : (p : Parity) (size : ℕ) (P : List ℕ) → IsSlice size P → plus P (parity_of p size []) ≡ P
of_none parity.P size P h = ap (plus P) (parity_by_folding.p_of_none size) ∙ plus-zeros P size h.long
of_none parity.Q size P h = ap (plus P) (parity_by_folding.q_of_none size) ∙ plus-zeros P size h.long

-- the parity of slices with one more is their parity with what that slice adds
of_one_more : (p : Parity) (size k : ℕ) (ds : List (List ℕ)) (d : List ℕ) → length ds ≡ k → IsSlice size d → parity_of p size (ds ++ d ∷ [])
    ≡ plus (parity_of p size ds) (weighed p k d)
of_one_more parity.P size k ds d e h = parity_by_folding.p_of_one_more size ds d h
of_one_more parity.Q size k ds d e h = parity_by_folding.q_of_one_more size ds d h ∙ ap (λ n. plus (parity_q size ds) (scaled (power n) d)) e

-- zeros add zeros to a parity
weighed-zeros : (p : Parity) (k size : ℕ) → weighed p k (zeros size) ≡ zeros size
weighed-zeros parity.P k size = refl
weighed-zeros parity.Q k size = scaled-zeros (power k) size

module _ (images : List (List ℕ)) (t : Target) (c : Candidate) where
  -- a slice, or zeros where it isn't read
  abbrev pub read_slice : ℕ → List ℕ
  read_slice s = cond (reads_slice t.at.index c s) (element images t (Slice s)) (zeros (size_of t))

  -- the first k of them
  abbrev pub up_to : ℕ → List (List ℕ)
  up_to k = map read_slice (range_with_len 0 k)

  -- a slice that the candidate reads stands in its place
  pub is_read : (s : ℕ) → reads_slice t.at.index c s ≡ true → read_slice s ≡ element images t (Slice s)
  is_read s e = ap (λ b. cond b (element images t (Slice s)) (zeros (size_of t))) e

  -- zeros stand in the place of a slice that the candidate doesn't read
  pub isnt_read : (s : ℕ) → reads_slice t.at.index c s ≡ false → read_slice s ≡ zeros (size_of t)
  isnt_read s e = ap (λ b. cond b (element images t (Slice s)) (zeros (size_of t))) e

  -- after the first k slices
  pub record GatheredSoFar (p : Parity) (k : ℕ) (bytes : List ℕ) : Type 0 where
    pub slices : All (IsSlice (size_of t)) (up_to k)
    pub whole : IsSlice (size_of t) (element images t (part_of p))
    pub sum : bytes ≡ plus (element images t (part_of p)) (parity_of p (size_of t) (up_to k))

  -- before the first slice, what is gathered is the parity itself
  pub gathered_none : (p : Parity) (bytes : List ℕ) → bytes ≡ element images t (part_of p) → IsSlice (size_of t) bytes → GatheredSoFar p 0 bytes
  gathered_none p bytes e h =
      let whole : IsSlice (size_of t) (element images t (part_of p)) = subst (IsSlice (size_of t)) e h in
      record {
        slices = λ k d lt. absurd (omega (arith, lt));
        whole = whole;
        sum = e ∙ sym (of_none p (size_of t) (element images t (part_of p)) whole);
      }

  -- the first k + 1 slices, or zeros, are the first k and one more
  more : (k : ℕ) → up_to (k + 1) ≡ up_to k ++ read_slice k ∷ []
  more k = map-range_with_len_more read_slice 0 k k (omega arith)

  -- what is gathered of k slices goes on with the next one, or with zeros where it isn't read
  step : (p : Parity) (k : ℕ) (bytes bytes' d : List ℕ) → GatheredSoFar p k bytes → read_slice k ≡ d → IsSlice (size_of t) d → bytes'
      ≡ plus bytes (weighed p k d) → GatheredSoFar p (k + 1) bytes'
  step p k bytes bytes' d h is slice e =
      let E = element images t (part_of p) in
      let grown : up_to (k + 1) ≡ up_to k ++ d ∷ [] = more k ∙ ap (λ x. up_to k ++ x ∷ []) is in
      record {
        slices = subst (All (IsSlice (size_of t))) (sym grown)
            (All-append (IsSlice (size_of t)) (up_to k) (d ∷ []) h.slices (all_one (IsSlice (size_of t)) d slice));
        whole = h.whole;
        sum =
            e
            ∙ ap (λ x. plus x (weighed p k d)) h.sum
            ∙ plus_assoc E (parity_of p (size_of t) (up_to k)) (weighed p k d)
            ∙ ap (plus E) (sym (of_one_more p (size_of t) k (up_to k) d (length-map-range_with_len read_slice 0 k) slice)
            ∙ ap (parity_of p (size_of t)) (sym grown));
      }

  -- one more slice that is read
  pub gathered_more : (p : Parity) (k : ℕ) (bytes bytes' : List ℕ) → GatheredSoFar p k bytes → reads_slice t.at.index c k ≡ true
      → IsSlice (size_of t) (element images t (Slice k)) → bytes' ≡ plus bytes (weighed p k (element images t (Slice k))) → GatheredSoFar p (k + 1) bytes'
  gathered_more p k bytes bytes' h reads slice e = step p k bytes bytes' (element images t (Slice k)) h (is_read k reads) slice e

  -- one more that isn't
  pub gathered_past : (p : Parity) (k : ℕ) (bytes : List ℕ) → GatheredSoFar p k bytes → reads_slice t.at.index c k ≡ false → GatheredSoFar p (k + 1) bytes
  gathered_past p k bytes h passes =
      let E = element images t (part_of p) in
      let long = parity_long p (size_of t) (up_to k) h.slices in
      let nothing : plus bytes (weighed p k (zeros (size_of t))) ≡ bytes =
      ap (plus bytes) (weighed-zeros p k (size_of t))
      ∙ ap (λ x. plus x (zeros (size_of t))) h.sum
      ∙ plus_assoc E (parity_of p (size_of t) (up_to k)) (zeros (size_of t))
      ∙ ap (plus E) (plus-zeros (parity_of p (size_of t) (up_to k)) (size_of t) long)
      ∙ sym h.sum
      in
      step p k bytes bytes (zeros (size_of t)) h (isnt_read k passes) (zeros_slice (size_of t)) (sym nothing)

  -- all
  pub gathered_all : (p : Parity) (k : ℕ) (bytes : List ℕ) → k ≡ slice_count t → GatheredSoFar p k bytes → IsGathered images t c p bytes
  gathered_all p k bytes e h =
      let all : GatheredSoFar p (slice_count t) bytes = subst (λ k. GatheredSoFar p k bytes) e h in
      record { slices = all.slices; whole = all.whole; sum = all.sum }
