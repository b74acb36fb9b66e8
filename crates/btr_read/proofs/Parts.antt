-- The parts that a candidate by parities reads, and their ranges.
use Rattle.std.proofs.Common.{◌≡◌, ℕ, ◌<◌, Bool, true, not, ◌&&◌, eqb, List, [], ◌∷◌, Option, Some, None, IsSome, is_some, Err, refl, sym, ap}
use Rattle.std.proofs.Common.{◌∙◌, subst, inl, inr, arith}
use Rattle.std.proofs.lemmas.Bool.{false≢true}
use Rattle.std.specs.List.{filter, filter_map, cons_option, list_all, range_with_len, Any}
use Rattle.btr_rack.specs.declared.place.Place.{Place as Range}
use Rattle.btr_chunk.specs.declared.place.Part.{Part}
use Rattle.btr_chunk.specs.declared.place.Part.TheVariants.{Mirror, Slice, P, Q}
use Rattle.btr_read.specs.declared.candidate.Candidate.{Candidate}
use Rattle.btr_read.specs.declared.candidate.Candidate.TheVariants.{Read, ByP, ByQ, ByBoth}
use Rattle.btr_read.specs.declared.parity.Parity.{Parity}
use Rattle.btr_read.specs.declared.parity.Parity.TheVariants as parity
use Rattle.btr_read.specs.Candidates.{Target, slice_count, range_of, ranges_of, reads_slice, slices_read, parts_read, stands}
use Rattle.btr_read.specs.Sought.{IsByParities, Uses}
use Rattle.btr_read.specs.Gathering.{part_of, IsOfRow, RowStands, AccountsPart, AccountsRow}
use Rattle.btr_rack.specs.Rack.{Seen, NoneFailed}
use Rattle.btr_read.specs.declared.attempt.Unread.{Unread}
use Rattle.btr_read.proofs.Keeping.{one_after}
use Rattle.btr_read.specs.Cause.{LiesIn}
use Rattle.btr_read.proofs.Ones.{In, at_in, below_in, in_map}
use Rattle.btr_read.proofs.Order.{to_filter}
use Rattle.btr_read.proofs.Standing.{both, left_of, right_of, all_read}

-- a slice that is read is among the parts
pub slice_in : (k i : ℕ) (c : Candidate) (s : ℕ) → s < k → reads_slice i c s ≡ true → In (Slice s) (parts_read k i c)
slice_in k i c s lt e = by c (in_map Slice s (filter (reads_slice i c) (range_with_len 0 k))
    (to_filter (reads_slice i c) s (range_with_len 0 k) (below_in k s lt) e)) e
  where
    by : (c : Candidate) → In (Slice s) (slices_read k i c) → reads_slice i c s ≡ true → In (Slice s) (parts_read k i c)
    by (Read part) i e = absurd (false≢true e)
    by ByP i e = inr i
    by ByQ i e = inr i
    by (ByBoth j) i e = inr (inr i)

-- so is a parity
pub parity_in : (k i : ℕ) (p : Parity) (c : Candidate) → Uses p c → In (part_of p) (parts_read k i c)
parity_in k i parity.P (Read part) u = absurd u
parity_in k i parity.P ByP u = inl refl
parity_in k i parity.P ByQ u = absurd u
parity_in k i parity.P (ByBoth j) u = inl refl
parity_in k i parity.Q (Read part) u = absurd u
parity_in k i parity.Q ByP u = absurd u
parity_in k i parity.Q ByQ u = inl refl
parity_in k i parity.Q (ByBoth j) u = inr (inl refl)

-- what holds of all parts holds of each
all_in : (f : Part → Bool) (ps : List Part) (part : Part) → list_all f ps ≡ true → In part ps → f part ≡ true
all_in f [] part h i = absurd i
all_in f (q ∷ ps) part h (inl same) = ap f (sym same) ∙ left_of (f q) (list_all f ps) h
all_in f (q ∷ ps) part h (inr i) = all_in f ps part (right_of (f q) (list_all f ps) h) i

-- where a candidate stands, its parts do
pub part_stands : (t : Target) (c : Candidate) (part : Part) → stands t c ≡ true → In part (parts_read (slice_count t) t.at.index c) → IsSome (range_of t part)
part_stands t c part h i = all_in (λ part. is_some (range_of t part)) (parts_read (slice_count t) t.at.index c) part h i

-- P, Q and the slices that a candidate by both parities reads are the parts that it reads
pub row_in : (t : Target) (j : ℕ) (part : Part) → IsOfRow t (ByBoth j) part → In part (parts_read (slice_count t) t.at.index (ByBoth j))
row_in t j (Mirror i) h = absurd h
row_in t j (Slice s) h = slice_in (slice_count t) t.at.index (ByBoth j) s h.0 h.1
row_in t j P h = inl refl
row_in t j Q h = inr (inl refl)

-- where what the candidates by P and by Q read stands, the row does, and so does what any candidate by parities reads
pub row_stands : (t : Target) → stands t ByP ≡ true → stands t ByQ ≡ true → RowStands t ByP
row_stands t p q (Mirror i) h = absurd h
row_stands t p q (Slice s) h = part_stands t ByP (Slice s) p (slice_in (slice_count t) t.at.index ByP s h.0 h.1)
row_stands t p q P h = part_stands t ByP P p (inl refl)
row_stands t p q Q h = part_stands t ByQ Q q (inl refl)

-- where P, Q and all slices but the one that is sought stand, each candidate by parities does
pub stands_in_row : (t : Target) (c : Candidate) → RowStands t ByP → IsByParities c → stands t c ≡ true
stands_in_row t (Read part) h by = absurd by
stands_in_row t ByP h by = both (is_some (range_of t P)) (list_all (λ part. is_some (range_of t part)) (slices_read (slice_count t) t.at.index ByP))
    (h P tt) (all_read (λ part. is_some (range_of t part)) (reads_slice t.at.index ByP) (slice_count t) (λ s lt e. h (Slice s) (lt, e)))
stands_in_row t ByQ h by = both (is_some (range_of t Q)) (list_all (λ part. is_some (range_of t part)) (slices_read (slice_count t) t.at.index ByQ))
    (h Q tt) (all_read (λ part. is_some (range_of t part)) (reads_slice t.at.index ByQ) (slice_count t) (λ s lt e. h (Slice s) (lt, e)))
stands_in_row t (ByBoth j) h by =
    let f : Part → Bool = λ part. is_some (range_of t part) in
    let rest : Bool = list_all f (slices_read (slice_count t) t.at.index (ByBoth j)) in
    both (f P) (f Q && rest) (h P tt) (both (f Q) rest (h Q tt)
    (all_read f (reads_slice t.at.index (ByBoth j)) (slice_count t) (λ s lt e. h (Slice s) (lt, left_of (not (eqb s t.at.index)) (not (eqb s j)) e))))

-- a read of one of them failed, after others that didn't
pub row_missed : (t : Target) (c : Candidate) (part : Part) (u : Unread) (a b n : Seen) → b.sure ≡ a.sure → NoneFailed a.account b.account
    → AccountsPart t part b n (Err u) → IsOfRow t c part → AccountsRow {T = Unit {0}} t c a n (Err u)
row_missed t c part u a b n sure unfailed e h = (e.0, one_after e.0 a b n sure unfailed e.1, e.2, ap (range_of t) e.4 ∙ e.3, subst (IsOfRow t c) (sym e.4) h)

-- a range lies in itself
lies_self : (m : Range) → LiesIn m m
lies_self m = record { slot = refl; from = omega arith; to = omega arith }

in_more : (m : Range) (o : Option Range) (rs : List Range) → In m rs → In m (cons_option o rs)
in_more m None rs h = h
in_more m (Some r) rs h = inr h

-- where a part stands, its range is one of the candidate's
pub range_in : (t : Target) (ps : List Part) (part : Part) (m : Range) → In part ps → range_of t part ≡ Some m → In m (filter_map (range_of t) ps)
range_in t [] part m i e = absurd i
range_in t (q ∷ ps) part m (inl same) e =
    let here : range_of t q ≡ Some m = ap (range_of t) same ∙ e in
    subst (λ o. In m (cons_option o (filter_map (range_of t) ps))) (sym here) (inl refl)
range_in t (q ∷ ps) part m (inr i) e = in_more m (range_of t q) (filter_map (range_of t) ps) (range_in t ps part m i e)

-- a range of a part is one of the candidate's
pub range_in_candidate : (t : Target) (c : Candidate) (part : Part) (m : Range) → In part (parts_read (slice_count t) t.at.index c) → range_of t part
    ≡ Some m → Any (LiesIn m) (ranges_of t c)
range_in_candidate t c part m i e =
    let at = at_in m (ranges_of t c) (range_in t (parts_read (slice_count t) t.at.index c) part m i e) in
    (at.0, m, at.1, at.2, lies_self m)
