-- How long extents are that begin before the bounds of block groups.
use Rattle.std.proofs.Common.{◌≡◌, ℕ, zero, suc, ◌+◌, ◌-◌, ◌<◌, ◌≤◌, Bool, true, false, not, ◌&&◌, cond, ◌⊎◌, ⊎_elim}
use Rattle.std.proofs.Common.{List, [], ◌∷◌, length, take, set, replicate, flat_map, get_or, sum_by, leb, ltb}
use Rattle.std.proofs.Common.{refl, sym, ap, subst, ◌∙◌, arith}
use Rattle.std.proofs.Math.Seq.{take-set-lt}
use Rattle.std.proofs.lemmas.Bool.Decides.{nat_tests}
use Rattle.std.proofs.lemmas.Bool.{cases_lt}
use Rattle.std.proofs.lemmas.List.{get_or-take, length-replicate, length-take-le, take-set-le, take_more}
use Rattle.std.proofs.lemmas.List.Elements.{Contains-append_right, Contains-get_or}
use Rattle.std.proofs.lemmas.List.Sums.{sum_by-append, sum_by-cons, sum_by-set}
use Rattle.std.proofs.lemmas.List.Sorted.{Contains-permutation}
use Rattle.std.specs.List.{Contains}
use Rattle.std.specs.List.Sorted.{IsPartitionPoint, IsNonDecreasing}
use Rattle.btr_findings.specs.declared.extent.Extent.{Extent}
use Rattle.btr_check_space.specs.declared.group.Group.{Group}
use Rattle.btr_check_space.specs.Bounds.{AreLengthsBetween, AreBounds, AreSums, before, ends_of, sum_first, Lengthened}
use Rattle.btr_check_space.specs.Groups.{used_in}
use Rattle.btr_check_space.proofs.Elements.{default_free}
use Rattle.btr_check_space.proofs.Prefixes.{sum_both}

-- a group's bounds stand among all
ends_there : (groups : List Group) (i : ℕ) (d : Group) → i < length groups
    → Contains (flat_map ends_of groups) (get_or groups i d).start × Contains (flat_map ends_of groups) ((get_or groups i d).start + (get_or groups i d).len)
ends_there [] i d below = absurd (omega (arith, below))
ends_there (group ∷ groups) zero d below = (
  Contains-get_or (flat_map ends_of (group ∷ groups)) 0 0 (omega arith),
  Contains-get_or (flat_map ends_of (group ∷ groups)) 1 0 (omega arith),
)
ends_there (group ∷ groups) (suc i) d below =
    let rest = ends_there groups i d (omega (arith, below)) in (
      Contains-append_right (ends_of group) (flat_map ends_of groups) (get_or groups i d).start rest.0,
      Contains-append_right (ends_of group) (flat_map ends_of groups) ((get_or groups i d).start + (get_or groups i d).len) rest.1,
    )

-- and among these in their order
pub start_there : (groups : List Group) (bounds : List ℕ) (i : ℕ) (d : Group) → AreBounds groups bounds → i < length groups
    → Contains bounds (get_or groups i d).start
start_there groups bounds i d are below =
    Contains-permutation (flat_map ends_of groups) bounds (get_or groups i d).start are.same (ends_there groups i d below).0

-- a group's end stands among the bounds in their order
pub end_there : (groups : List Group) (bounds : List ℕ) (i : ℕ) (d : Group) → AreBounds groups bounds → i < length groups
    → Contains bounds ((get_or groups i d).start + (get_or groups i d).len)
end_there groups bounds i d are below =
    Contains-permutation (flat_map ends_of groups) bounds ((get_or groups i d).start + (get_or groups i d).len) are.same (ends_there groups i d below).1

-- more at a place, in the sum of those up to one at or behind it
sum_behind : (lengths : List ℕ) (place i more : ℕ) → i < length lengths → place ≤ i
    → sum_first (i + 1) (set lengths place (get_or lengths place 0 + more)) ≡ sum_first (i + 1) lengths + more
sum_behind lengths place i more below from =
    let len = get_or lengths place 0 in
    let taken = take-set-lt (i + 1) lengths place (len + more) (omega (arith, from)) in
    let inside : place < length (take (i + 1) lengths) =
    subst (λ n. place < n) (sym (length-take-le (i + 1) lengths (omega (arith, below)))) (omega (arith, from)) in
    let whole = sum_by-set (λ (n : ℕ). n) (take (i + 1) lengths) place (len + more) 0 inside in
    let same : get_or (take (i + 1) lengths) place 0 ≡ len = get_or-take (i + 1) lengths place 0 (omega (arith, from)) in
    let all : sum_first (i + 1) (set lengths place (len + more)) ≡ sum_by (λ (n : ℕ). n) (set (take (i + 1) lengths) place (len + more)) =
    ap (sum_by (λ (n : ℕ). n)) taken in
    omega (arith, whole, same, all)

-- more at a place
pub lengthened : (lengths : List ℕ) (place more : ℕ) → Lengthened place more lengths (set lengths place (get_or lengths place 0 + more))
lengthened lengths place more i below = by (leb place i) refl
  where
    le_from : leb place i ≡ true → place ≤ i
    le_from e = grind (arith, nat_tests)

    gt_from : leb place i ≡ false → i + 1 ≤ place
    gt_from e = grind (arith, nat_tests)

    by : (b : Bool) → leb place i ≡ b
        → sum_first (i + 1) (set lengths place (get_or lengths place 0 + more)) ≡ sum_first (i + 1) lengths + cond (leb place i) more 0
    by true e = sum_behind lengths place i more below (le_from e) ∙ ap (λ b. sum_first (i + 1) lengths + cond b more 0) (sym e)
    by false e =
        let same : sum_first (i + 1) (set lengths place (get_or lengths place 0 + more)) ≡ sum_first (i + 1) lengths =
        ap (sum_by (λ (n : ℕ). n)) (take-set-le (i + 1) lengths place (get_or lengths place 0 + more) (gt_from e)) in
        let none : cond (leb place i) more 0 ≡ 0 = ap (λ b. cond b more 0) e in
        omega (arith, same, none)

-- one extent more
before_more : (extents : List Extent) (i addr : ℕ) (d : Extent) → i < length extents
    → before (take (i + 1) extents) addr ≡ before (take i extents) addr + cond (ltb (get_or extents i d).addr addr) (get_or extents i d).len 0
before_more extents i addr d below =
    let weight : Extent → ℕ = λ extent. cond (ltb extent.addr addr) extent.len 0 in
    let all : before (take (i + 1) extents) addr
    ≡ before (take i extents) addr + (0 + cond (ltb (get_or extents i d).addr addr) (get_or extents i d).len 0) =
    ap (sum_by weight) (take_more extents i d below) ∙ sum_by-append weight (take i extents) (get_or extents i d ∷ []) in
    omega (arith, all)

-- before the bounds that lie behind its address an extent begins
pub apart_more : (extents : List Extent) (bounds old new : List ℕ) (i place : ℕ) (d : Extent) → i < length extents
    → IsPartitionPoint (λ (bound : ℕ). leb bound (get_or extents i d).addr ≡ true) (λ (bound : ℕ). leb bound (get_or extents i d).addr ≡ false) bounds place
    → AreLengthsBetween (take i extents) bounds old → length new ≡ length old → Lengthened place (get_or extents i d).len old new
    → AreLengthsBetween (take (i + 1) extents) bounds new
apart_more extents bounds old new i place d below parted are long more = record {
  long = long ∙ are.long;
  each = λ k inside.
      let extent = get_or extents i d in
      let bound = get_or bounds k 0 in
      let tests : leb place k ≡ ltb extent.addr bound = test k inside in
      let now = more k (omega (arith, inside, are.long)) in
      let was = are.each k inside in
      let part : cond (leb place k) extent.len 0 ≡ cond (ltb extent.addr bound) extent.len 0 = ap (λ b. cond b extent.len 0) tests in
      let all = before_more extents i bound d below in
      omega (arith, now, was, part, all);
}
  where
    flip : (bound addr : ℕ) (b : Bool) → leb bound addr ≡ b → ltb addr bound ≡ not b
    flip bound addr b e = grind (arith, nat_tests)

    -- a bound stands at or behind the extent's place just where the extent begins before it
    test : (k : ℕ) → k < length bounds → leb place k ≡ ltb (get_or extents i d).addr (get_or bounds k 0)
    test k inside = by (leb place k) refl
      where
        by : (b : Bool) → leb place k ≡ b → leb place k ≡ ltb (get_or extents i d).addr (get_or bounds k 0)
        by true e = e ∙ sym (flip (get_or bounds k 0) (get_or extents i d).addr false (parted.1 k 0 (grind (arith, nat_tests)) inside))
        by false e = e ∙ sym (flip (get_or bounds k 0) (get_or extents i d).addr true (parted.0 k 0 (omega arith) (grind (arith, nat_tests))))

-- none is before any bound yet
pub apart_none : (bounds : List ℕ) (lengths : List ℕ) → lengths ≡ replicate (length bounds) 0 → AreLengthsBetween [] bounds lengths
apart_none bounds lengths is = record {
  long = ap length is ∙ length-replicate (length bounds) 0;
  each = λ k inside. ap (sum_first (k + 1)) is ∙ no_sum (k + 1) (length bounds);
}
  where
    -- the first of some lengths of 0 come to 0
    no_sum : (count n : ℕ) → sum_first count (replicate n 0) ≡ 0
    no_sum zero n = refl
    no_sum (suc count) zero = refl
    no_sum (suc count) (suc n) =
        let rest : sum_first count (replicate n 0) ≡ 0 = no_sum count n in
        let all : sum_first (suc count) (replicate (suc n) 0) ≡ 0 + sum_first count (replicate n 0) =
        sum_by-cons (λ (len : ℕ). len) 0 (take count (replicate n 0)) in
        omega (arith, all, rest)

-- a bound stands where those before it end
pub stands_at : (bounds : List ℕ) (bound place : ℕ) → IsNonDecreasing bounds → Contains bounds bound
    → IsPartitionPoint (λ (other : ℕ). ltb other bound ≡ true) (λ (other : ℕ). ltb other bound ≡ false) bounds place
    → (place < length bounds) × (get_or bounds place 0 ≡ bound)
stands_at bounds bound place ascend there parted =
    let here : get_or bounds there.0 0 ≡ bound = default_free bounds there.0 0 bound there.1 ∙ there.2 in
    let from : place ≤ there.0 =
    ⊎_elim (λ before. absurd (not_below bound (sym (ap (λ n. ltb n bound) here) ∙ parted.0 there.0 0 (omega arith) before))) (λ h. h)
    (cases_lt there.0 place) in
    let inside : place < length bounds = omega (arith, from, there.1) in
    let low : get_or bounds place 0 ≤ get_or bounds there.0 0 = ascend place there.0 0 from there.1 in
    let high : bound ≤ get_or bounds place 0 = at_least (get_or bounds place 0) bound (parted.1 place 0 (omega arith) inside) in
    (inside, omega (arith, low, high, here))
  where
    not_below : (n : ℕ) → ltb n n ≡ true → ⊥
    not_below n e = grind (arith, nat_tests)

    at_least : (x y : ℕ) → ltb x y ≡ false → y ≤ x
    at_least x y e = grind (arith, nat_tests)

-- a length counts in a group or before it just where it counts before the group's end
parts : (addr len start size : ℕ) → cond (leb start addr && ltb addr (start + size)) len 0 + cond (ltb addr start) len 0
    ≡ cond (ltb addr (start + size)) len 0
parts addr len start size = grind (arith, nat_tests)

-- those that begin in a group, and those before it
within : (extents : List Extent) (group : Group) → used_in extents group + before extents group.start ≡ before extents (group.start + group.len)
within extents group = sum_both _ _ (λ (extent : Extent). cond (ltb extent.addr (group.start + group.len)) extent.len 0) extents
    (λ extent. parts extent.addr extent.len group.start group.len)

-- how much extents have that begin in a group, by the sums before its bounds
pub low_first : (extents : List Extent) (group : Group) (high low : ℕ)
    → high ≡ before extents (group.start + group.len) → low ≡ before extents group.start → low ≤ high
low_first extents group high low is_high is_low =
    let all : used_in extents group + before extents group.start ≡ before extents (group.start + group.len) = within extents group in
    omega (arith, is_high, is_low, all)

-- what extents that begin in a group have is the sum before its end less the one before its start
pub used_is : (extents : List Extent) (group : Group) (high low : ℕ)
    → high ≡ before extents (group.start + group.len) → low ≡ before extents group.start → high - low ≡ used_in extents group
used_is extents group high low is_high is_low =
    let all : used_in extents group + before extents group.start ≡ before extents (group.start + group.len) = within extents group in
    omega (arith, is_high, is_low, all)

-- the same lists
pub sums_at : (extents : List Extent) (bounds sums bounds' sums' : List ℕ) → bounds' ≡ bounds → sums' ≡ sums → AreSums extents bounds sums
    → AreSums extents bounds' sums'
sums_at extents bounds sums bounds' sums' one two are =
    subst (λ l. AreSums extents l sums') (sym one) (subst (λ l. AreSums extents bounds l) (sym two) are)
