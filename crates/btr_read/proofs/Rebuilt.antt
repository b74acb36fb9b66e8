-- What is left of a parity is the one solution of its equations.
use Rattle.std.proofs.Common.{◌≡◌, ◌≢◌, ℕ, ◌<◌, Bool, true, false, not, cond, ◌&&◌, List, [], length, get_or, set, eqb, bit_xor, zero-add, refl, sym, ap, ◌∙◌}
use Rattle.std.proofs.Common.{subst, inl, inr, arith}
use Rattle.std.proofs.lemmas.Bool.{cases_eq, eq-eqb}
use Rattle.std.proofs.lemmas.Bool.{eqb-true}
use Rattle.std.proofs.lemmas.List.{same_lists, length-set, set-get_or, get_or-set_same, get_or-set_other}
use Rattle.std.proofs.lemmas.List.FromFn.{length-map-range_with_len, get_or-map-range_with_len}
use Rattle.std.proofs.lemmas.List.Elements.{All-set}
use Rattle.std.proofs.lemmas.Simd.{length-zip2}
use Rattle.std.proofs.lemmas.Slice.Eq.{bytes_eq-Decides}
use Rattle.std.specs.Str.{bytes_eq}
use Rattle.std.specs.List.{All, list_any}
use Rattle.btr_chunk.specs.declared.place.Part.TheVariants.{Slice, P, Q}
use Rattle.btr_parity.specs.Field.{power}
use Rattle.btr_parity.specs.Slices.{IsSlice, zeros, plus, scaled, weighted, parity_p, parity_q}
use Rattle.btr_parity.specs.Solutions.{IsTheOne, Weighs, WeighsWith, FitsP, FitsQ, FitsBoth}
use Rattle.btr_parity.proofs.Lost.{lost_by_p, lost_by_q, lost_by_both, parity_p-set, weighted-set, plus_comm, plus_assoc, plus_twice, zeros_slice}
use Rattle.btr_read.specs.declared.candidate.Candidate.{Candidate}
use Rattle.btr_read.specs.declared.candidate.Candidate.TheVariants.{ByP, ByQ, ByBoth}
use Rattle.btr_read.specs.declared.parity.Parity.{Parity}
use Rattle.btr_read.specs.declared.parity.Parity.TheVariants as parity
use Rattle.btr_read.specs.Candidates.{Target, size_of, slice_count, reads_slice, element, slices, fits_p, fits_q, fits_both, value_of}
use Rattle.btr_read.specs.Gathering.{read_slices, part_of, weighed, parity_of, IsGathered}
use Rattle.btr_read.proofs.Ones.{the_one_is, some_slice, slice_there}
use Rattle.btr_read.proofs.Standing.{both, left_of, right_of}
use Rattle.btr_read.specs.Solution.{byte_lists}
use Rattle.btr_read.proofs.Pieces.{length-weighed}
use Rattle.btr_read.proofs.Sums.{read_slice, is_read, isnt_read, parity_long}

not_itself : (i : ℕ) → not (eqb i i) ≡ false
not_itself i = ap not (eq-eqb i i refl)

-- a slice of another number than the one that is sought is another one
pub not_other : (s i : ℕ) → s ≢ i → not (eqb s i) ≡ true
not_other s i ne = by (eqb s i) refl
  where
    by : (b : Bool) → eqb s i ≡ b → not (eqb s i) ≡ true
    by true e = absurd (ne (eqb-true s i e))
    by false e = ap not e

-- where two lists have the same in a place, they still have it with an entry set in both
pub set_alike : (xs ys : List (List ℕ)) (i : ℕ) (X : List ℕ) → length xs ≡ length ys → (j : ℕ) (d : List ℕ) → j < length xs
    → (j ≢ i → get_or xs j d ≡ get_or ys j d) → get_or (set xs i X) j d ≡ get_or (set ys i X) j d
set_alike xs ys i X len j d lt same = elim (cases_eq j i) [
  | inl e ↦
      let at : i < length xs = omega (arith, e, lt) in
      ap (λ n. get_or (set xs i X) n d) e ∙ get_or-set_same xs i X d at
      ∙ sym (ap (λ n. get_or (set ys i X) n d) e ∙ get_or-set_same ys i X d (omega (arith, at, len)))
  | inr ne ↦ get_or-set_other xs i j X d ne ∙ same ne ∙ sym (get_or-set_other ys i j X d ne)
]

-- lists that agree but for one place are the same once that place is set
pub same_set : (xs ys : List (List ℕ)) (i : ℕ) (X : List ℕ) → length xs ≡ length ys
    → ((j : ℕ) (d : List ℕ) → j ≢ i → j < length xs → get_or xs j d ≡ get_or ys j d) → set xs i X ≡ set ys i X
same_set xs ys i X len same = same_lists (set xs i X) (set ys i X) (length-set xs i X ∙ len ∙ sym (length-set ys i X)) (λ j d below.
    let within : j < length xs = omega (arith, below, length-set xs i X) in
    set_alike xs ys i X len j d within (λ ne. same j d ne within))

module _ (images : List (List ℕ)) (t : Target) (c : Candidate) where
  -- the slices of the row, with zeros in the place of those that the candidate doesn't read
  abbrev rs : List (List ℕ)
  rs = read_slices images t c

  -- the slices that are read, and zeros, are as many as the row's slices
  pub length-rs : length rs ≡ slice_count t
  length-rs = length-map-range_with_len (read_slice images t c) 0 (slice_count t)

  -- at the place of a slice stands what the candidate reads of it
  pub at_slice : (j : ℕ) (d : List ℕ) → j < slice_count t → get_or rs j d ≡ read_slice images t c j
  at_slice j d lt = get_or-map-range_with_len (read_slice images t c) 0 (slice_count t) j j d lt (omega arith)

  -- at a place of the row's slices stand the bytes of that slice
  pub at_element : (j : ℕ) (d : List ℕ) → j < slice_count t → get_or (slices images t) j d ≡ element images t (Slice j)
  at_element j d lt = get_or-map-range_with_len (λ s. element images t (Slice s)) 0 (slice_count t) j j d lt (omega arith)

  -- the row's slices are as many as its profile gives
  pub length-slices : length (slices images t) ≡ slice_count t
  length-slices = length-map-range_with_len (λ s. element images t (Slice s)) 0 (slice_count t)

  -- a slice that isn't read counts as zeros
  unread : (s : ℕ) → s < slice_count t → reads_slice t.at.index c s ≡ false → set rs s (zeros (size_of t)) ≡ rs
  unread s lt e =
      let here : get_or rs s [] ≡ zeros (size_of t) = at_slice s [] lt ∙ isnt_read images t c s e in
      ap (set rs s) (sym here) ∙ set-get_or rs s []

  -- so with any other in the place of the one that is sought the slices are the same
  same_with : ((s : ℕ) → s ≢ t.at.index → reads_slice t.at.index c s ≡ true) → (X : List ℕ) → set rs t.at.index X ≡ set (slices images t) t.at.index X
  same_with reads X = same_set rs (slices images t) t.at.index X (length-rs ∙ sym length-slices) (λ j d ne below.
      let within : j < slice_count t = omega (arith, below, length-rs) in
      at_slice j d within ∙ is_read images t c j (reads j ne) ∙ sym (at_element j d within))

-- what P leaves is the one slice that fits P
pub one_by_p : (images : List (List ℕ)) (t : Target) (bytes : List ℕ) → t.at.index < slice_count t → IsGathered images t ByP parity.P bytes
    → IsTheOne (size_of t) (λ X. fits_p images t X ≡ true) bytes
one_by_p images t bytes lt h =
    let i = t.at.index in
    let n = size_of t in
    let r : List (List ℕ) = read_slices images t ByP in
    let one = lost_by_p n i r (element images t P) h.slices (omega (arith, lt, length-rs images t ByP)) h.whole in
    let sum : plus (element images t P) (parity_p n (set r i (zeros n))) ≡ bytes =
    ap (λ xs. plus (element images t P) (parity_p n xs)) (unread images t ByP i lt (not_itself i)) ∙ sym h.sum in
    let is : IsTheOne n (FitsP n r (element images t P) i) bytes = subst (IsTheOne n (FitsP n r (element images t P) i)) sum one in
    let same = same_with images t ByP (λ s ne. not_other s i ne) in
    record {
      slice = is.slice;
      meets = let d = bytes_eq-Decides (parity_p n (set (slices images t) i bytes)) (element images t P) in d.1 (sym (ap (parity_p n) (same bytes)) ∙ is.meets);
      only = λ z slice test. let d = bytes_eq-Decides (parity_p n (set (slices images t) i z)) (element images t P) in
          is.only z slice (ap (parity_p n) (same z) ∙ d.0 test);
    }

-- so it is the candidate's value
pub by_p : (images : List (List ℕ)) (t : Target) (bytes : List ℕ) → t.at.index < slice_count t → IsGathered images t ByP parity.P bytes
    → value_of images t ByP ≡ bytes
by_p images t bytes lt h = let one = one_by_p images t bytes lt h in the_one_is (size_of t) (fits_p images t) bytes one.slice one.meets one.only

-- what Q leaves, divided, is the one slice that fits Q
pub one_by_q : (images : List (List ℕ)) (t : Target) (sum X : List ℕ) → t.at.index < slice_count t → IsGathered images t ByQ parity.Q sum
    → IsTheOne (size_of t) (Weighs t.at.index sum) X → IsTheOne (size_of t) (λ X. fits_q images t X ≡ true) X
one_by_q images t sum X lt h weighs =
    let i = t.at.index in
    let n = size_of t in
    let r : List (List ℕ) = read_slices images t ByQ in
    let left : sum ≡ plus (element images t Q) (parity_q n (set r i (zeros n))) =
    h.sum ∙ ap (λ xs. plus (element images t Q) (parity_q n xs)) (sym (unread images t ByQ i lt (not_itself i))) in
    let is : IsTheOne n (FitsQ n r (element images t Q) i) X =
    lost_by_q n i r (element images t Q) X h.slices (omega (arith, lt, length-rs images t ByQ)) h.whole
    (subst (λ s. IsTheOne n (Weighs i s) X) left weighs) in
    let same = same_with images t ByQ (λ s ne. not_other s i ne) in
    record {
      slice = is.slice;
      meets = let d = bytes_eq-Decides (parity_q n (set (slices images t) i X)) (element images t Q) in d.1 (sym (ap (parity_q n) (same X)) ∙ is.meets);
      only = λ z slice test. let d = bytes_eq-Decides (parity_q n (set (slices images t) i z)) (element images t Q) in
          is.only z slice (ap (parity_q n) (same z) ∙ d.0 test);
    }

-- so it is the candidate's value
pub by_q : (images : List (List ℕ)) (t : Target) (sum X : List ℕ) → t.at.index < slice_count t → IsGathered images t ByQ parity.Q sum
    → IsTheOne (size_of t) (Weighs t.at.index sum) X → value_of images t ByQ ≡ X
by_q images t sum X lt h weighs = let one = one_by_q images t sum X lt h weighs in the_one_is (size_of t) (fits_q images t) X one.slice one.meets one.only

pub and_false : (a : Bool) → (a && false) ≡ false
and_false true = refl
and_false false = refl

module _ (images : List (List ℕ)) (t : Target) (j : ℕ) where
  -- the slices of the row, with zeros in the place of the two that a candidate by both parities doesn't read
  abbrev both_rs : List (List ℕ)
  both_rs = read_slices images t (ByBoth j)

  -- the candidate by both parities doesn't read slice j
  skips : reads_slice t.at.index (ByBoth j) j ≡ false
  skips = ap (λ b. not (eqb j t.at.index) && b) (not_itself j) ∙ and_false (not (eqb j t.at.index))

  -- neither slice is read
  neither : t.at.index < slice_count t → j < slice_count t → set (set both_rs j (zeros (size_of t))) t.at.index (zeros (size_of t)) ≡ both_rs
  neither lt lt_j =
      let i = t.at.index in
      ap (λ xs. set xs i (zeros (size_of t))) (unread images t (ByBoth j) j lt_j skips)
      ∙ unread images t (ByBoth j) i lt (ap (λ b. b && not (eqb i j)) (not_itself i))

  -- so with any others in their places the slices are the same
  same_both : (X Y : List ℕ) → set (set both_rs j Y) t.at.index X ≡ set (set (slices images t) j Y) t.at.index X
  same_both X Y =
      let i = t.at.index in
      let xs = slices images t in
      let count = length-rs images t (ByBoth j) in
      let as_many : length both_rs ≡ length xs = count ∙ sym (length-slices images t (ByBoth j)) in
      let long = length-set both_rs j Y in
      same_set (set both_rs j Y) (set xs j Y) i X (long ∙ as_many ∙ sym (length-set xs j Y)) (λ s d ne below.
      let within : s < slice_count t = omega (arith, below, long, count) in
      set_alike both_rs xs j Y as_many s d (omega (arith, within, count)) (λ ne_j.
      at_slice images t (ByBoth j) s d within
      ∙ is_read images t (ByBoth j) s (both (not (eqb s i)) (not (eqb s j)) (not_other s i ne) (not_other s j ne_j))
      ∙ sym (at_element images t (ByBoth j) s d within)))

-- what a parity leaves is as long as a slice
pub gathered_long : (images : List (List ℕ)) (t : Target) (c : Candidate) (p : Parity) (bytes : List ℕ) → IsGathered images t c p bytes → length bytes
    ≡ size_of t
gathered_long images t c p bytes h =
    let E = element images t (part_of p) in
    let B = parity_of p (size_of t) (read_slices images t c) in
    let B_long : length B ≡ size_of t = parity_long p (size_of t) (read_slices images t c) h.slices in
    ap length h.sum ∙ length-zip2 bit_xor E B (h.whole.long ∙ sym B_long) ∙ h.whole.long

-- the parity of slices of which one is another
of_set : (p : Parity) (size j : ℕ) (ds : List (List ℕ)) (X : List ℕ) → All (IsSlice size) ds → j < length ds → parity_of p size (set ds j X)
    ≡ plus (weighed p j X) (parity_of p size (set ds j (zeros size)))
of_set parity.P size j ds X h lt = parity_p-set size j ds X h lt
of_set parity.Q size j ds X h lt = weighted-set size 0 j ds X h lt ∙ ap (λ n. plus (scaled (power n) X) (weighted size 0 (set ds j (zeros size)))) (zero-add j)

pub and_true : (a : Bool) → (a && true) ≡ a
and_true true = refl
and_true false = refl

module _ (images : List (List ℕ)) (t : Target) (j : ℕ) (lt_j : j < slice_count t) (ne : j ≢ t.at.index) where
  -- all slices but the one that is sought
  abbrev all_rs : List (List ℕ)
  all_rs = read_slices images t ByP

  -- the bytes of slice j
  abbrev other : List ℕ
  other = element images t (Slice j)

  -- slice j stands among all slices but the one that is sought
  there : get_or all_rs j [] ≡ other
  there = at_slice images t ByP j [] lt_j ∙ is_read images t ByP j (not_other j t.at.index ne)

  -- a candidate by both parities reads the slices but j as one by P does
  same_read : (s : ℕ) → s ≢ j → read_slice images t ByP s ≡ read_slice images t (ByBoth j) s
  same_read s ne_s = ap (λ b. cond b (element images t (Slice s)) (zeros (size_of t)))
      (sym (ap (λ b. not (eqb s t.at.index) && b) (not_other s j ne_s) ∙ and_true (not (eqb s t.at.index))))

  -- without slice j they are those that the candidate by both parities reads
  left_out : set all_rs j (zeros (size_of t)) ≡ read_slices images t (ByBoth j)
  left_out =
      let count = length-rs images t ByP in
      same_set all_rs (read_slices images t (ByBoth j)) j (zeros (size_of t)) (count ∙ sym (length-rs images t (ByBoth j)))
      (λ s d ne_s below. let within : s < slice_count t = omega (arith, below, count) in
      at_slice images t ByP s d within ∙ same_read s ne_s ∙ sym (at_slice images t (ByBoth j) s d within))
      ∙ unread images t (ByBoth j) j lt_j (skips images t j)

  -- a syndrome to which slice j is added once more is what the parity leaves of both slices
  pub without_other : (p : Parity) (S : List ℕ) → IsGathered images t ByP p S → IsSlice (size_of t) other
      → IsGathered images t (ByBoth j) p (plus S (weighed p j other))
  without_other p S h slice =
      let n = size_of t in
      let E = element images t (part_of p) in
      let W = weighed p j other in
      let slices : All (IsSlice n) (read_slices images t (ByBoth j)) =
      subst (All (IsSlice n)) left_out (All-set (IsSlice n) all_rs j (zeros n) (zeros_slice n) h.slices) in
      let B = parity_of p n (read_slices images t (ByBoth j)) in
      let whole : set all_rs j other ≡ all_rs = ap (set all_rs j) (sym there) ∙ set-get_or all_rs j [] in
      let parts : parity_of p n all_rs ≡ plus W B =
      ap (parity_of p n) (sym whole) ∙ of_set p n j all_rs other h.slices (omega (arith, lt_j, length-rs images t ByP))
      ∙ ap (λ ds. plus W (parity_of p n ds)) left_out in
      let W_long : length W ≡ n = length-weighed p j other ∙ slice.long in
      let B_long : length B ≡ n = parity_long p n (read_slices images t (ByBoth j)) slices in
      let EB_long : length (plus E B) ≡ n = length-zip2 bit_xor E B (h.whole.long ∙ sym B_long) ∙ h.whole.long in
      record {
        slices = slices;
        whole = h.whole;
        sum =
            ap (λ s. plus s W) (h.sum ∙ ap (plus E) (parts ∙ plus_comm W B) ∙ sym (plus_assoc E B W))
            ∙ plus_twice (plus E B) W (EB_long ∙ sym W_long);
      }

-- the first of the two slices that P and Q leave is the one that fits both with some other
pub one_by_both : (images : List (List ℕ)) (t : Target) (j : ℕ) (sum weighted X : List ℕ) → t.at.index < slice_count t → j < slice_count t
    → t.at.index ≢ j → IsGathered images t (ByBoth j) parity.P sum → IsGathered images t (ByBoth j) parity.Q weighted
    → IsTheOne (size_of t) (WeighsWith sum weighted t.at.index j) X
    → IsTheOne (size_of t) (λ X. (Y : List ℕ) × IsSlice (size_of t) Y × (fits_both images t j X Y ≡ true)) X
one_by_both images t j sum weighted X lt lt_j ne p q solves =
    let i = t.at.index in
    let n = size_of t in
    let r : List (List ℕ) = read_slices images t (ByBoth j) in
    let len = length-rs images t (ByBoth j) in
    let clear = sym (neither images t j lt lt_j) in
    let left_p : sum ≡ plus (element images t P) (parity_p n (set (set r j (zeros n)) i (zeros n))) =
    p.sum ∙ ap (λ xs. plus (element images t P) (parity_p n xs)) clear in
    let left_q : weighted ≡ plus (element images t Q) (parity_q n (set (set r j (zeros n)) i (zeros n))) =
    q.sum ∙ ap (λ xs. plus (element images t Q) (parity_q n xs)) clear in
    let given = subst (λ s. IsTheOne n (WeighsWith (plus (element images t P) (parity_p n (set (set r j (zeros n)) i (zeros n)))) s i j) X) left_q
    (subst (λ s. IsTheOne n (WeighsWith s weighted i j) X) left_p solves) in
    let is : IsTheOne n (FitsBoth n r (element images t P) (element images t Q) i j) X =
    lost_by_both n i j r (element images t P) (element images t Q) X p.slices (omega (arith, lt, len))
    (omega (arith, lt_j, len)) ne p.whole q.whole given in
    let same = same_both images t j in
    record {
      slice = is.slice;
      meets =
          let Y = is.meets.other in
          let ys = set (set (slices images t) j Y) i X in
          let dp = bytes_eq-Decides (parity_p n ys) (element images t P) in
          let dq = bytes_eq-Decides (parity_q n ys) (element images t Q) in (
            Y,
            is.meets.slice,
            both (bytes_eq (parity_p n ys) (element images t P)) (bytes_eq (parity_q n ys) (element images t Q))
                (dp.1 (sym (ap (parity_p n) (same X Y)) ∙ is.meets.sum)) (dq.1 (sym (ap (parity_q n) (same X Y)) ∙ is.meets.weighted_sum)),
          );
      only = λ z slice y.
          let ys = set (set (slices images t) j y.0) i z in
          let dp = bytes_eq-Decides (parity_p n ys) (element images t P) in
          let dq = bytes_eq-Decides (parity_q n ys) (element images t Q) in
          is.only z slice (record {
            other = y.0;
            slice = y.1;
            sum = ap (parity_p n) (same z y.0) ∙ dp.0 (left_of (bytes_eq (parity_p n ys) (element images t P))
                (bytes_eq (parity_q n ys) (element images t Q)) y.2);
            weighted_sum = ap (parity_q n) (same z y.0) ∙ dq.0
                (right_of (bytes_eq (parity_p n ys) (element images t P)) (bytes_eq (parity_q n ys) (element images t Q)) y.2);
          });
    }

-- so it is the candidate's value
pub by_both : (images : List (List ℕ)) (t : Target) (j : ℕ) (sum weighted X : List ℕ) → t.at.index < slice_count t → j < slice_count t
    → t.at.index ≢ j → IsGathered images t (ByBoth j) parity.P sum → IsGathered images t (ByBoth j) parity.Q weighted
    → IsTheOne (size_of t) (WeighsWith sum weighted t.at.index j) X → value_of images t (ByBoth j) ≡ X
by_both images t j sum weighted X lt lt_j ne p q solves =
    let n = size_of t in
    let one = one_by_both images t j sum weighted X lt lt_j ne p q solves in
    the_one_is n (λ Z. list_any (fits_both images t j Z) (byte_lists n)) X one.slice
    (slice_there n (fits_both images t j X) one.meets.0 one.meets.1 one.meets.2)
    (λ z slice test. one.only z slice (some_slice n (fits_both images t j z) test))
