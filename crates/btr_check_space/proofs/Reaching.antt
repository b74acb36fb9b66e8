-- How far ranges reach, and whether one of them holds another.
use Rattle.std.proofs.Common.{◌≡◌, ℕ, zero, suc, ◌+◌, ◌-◌, ◌<◌, ◌≤◌, max, true, false, ◌&&◌, ◌||◌, List, [], ◌∷◌, ◌++◌, take, drop, set, get_or, length}
use Rattle.std.proofs.Common.{leb, ltb, refl, sym, ap, subst, ◌∙◌, append_assoc, arith}
use Rattle.std.proofs.lemmas.Bool.Decides.{nat_tests}
use Rattle.std.proofs.lemmas.List.{drop_more, drop-set-lt, take_more_set}
use Rattle.std.proofs.lemmas.List.Folds.{list_any_more}
use Rattle.std.proofs.lemmas.List.Sorted.{IsNonDecreasingBy-short}
use Rattle.std.specs.List.{list_any}
use Rattle.std.specs.List.Sorted.{IsNonDecreasingBy, IsPartitionPoint}
use Rattle.btr_check_space.specs.AddressRanges.{HoldSame, AscendAtBothEnds, end_of, is_held, lengthened}
use Rattle.btr_check_space.specs.declared.address_ranges.AddressRange.{AddressRange}
use Rattle.btr_check_space.proofs.Prefixes.{any_front}
use Rattle.btr_findings.proofs.Onces.{or_regroups}

-- where a range begins
abbrev pub start_of : AddressRange → ℕ
start_of range = range.start

-- the empty range at address 0
abbrev pub nothing : AddressRange
nothing = record { start = 0; len = 0 }

-- each range as far as it, the ones before it and an earlier one reach
abbrev pub all_lengthened : AddressRange → List AddressRange → List AddressRange
all_lengthened earlier [] = []
all_lengthened earlier (range ∷ ranges) = lengthened earlier range ∷ all_lengthened (lengthened earlier range) ranges

-- one range more is
pub lengthened_more : (earlier range d : AddressRange) (list : List AddressRange) (i : ℕ) → i < length list → range ≡ lengthened earlier (get_or list i d)
    → take (i + 1) (set list i range) ++ all_lengthened range (drop (i + 1) (set list i range)) ≡ take i list ++ all_lengthened earlier (drop i list)
lengthened_more earlier range d list i below is =
    let here = get_or list i d in
    let rest = drop (i + 1) list in
    ap (λ l. l ++ all_lengthened range (drop (i + 1) (set list i range))) (take_more_set list i range below)
    ∙ ap (λ l. (take i list ++ range ∷ []) ++ all_lengthened range l) (drop-set-lt (i + 1) list i range (omega arith))
    ∙ append_assoc (take i list) (range ∷ []) (all_lengthened range rest)
    ∙ ap (λ one. take i list ++ one ∷ all_lengthened one rest) is
    ∙ sym (ap (λ l. take i list ++ all_lengthened earlier l) (drop_more list i d below))

-- behind an earlier range, ranges begin in ascending order
abbrev Ascend : AddressRange → List AddressRange → Type 0
Ascend earlier [] = Unit {0}
Ascend earlier (range ∷ ranges) = (earlier.start ≤ range.start) × Ascend range ranges

-- ranges in ascending order of their starts begin so behind the first of them
ascending : (first : AddressRange) (list : List AddressRange) → IsNonDecreasingBy start_of (first ∷ list) → Ascend first list
ascending first [] up = tt
ascending first (range ∷ list) up = (
  up zero (suc zero) first (omega arith) (omega arith),
  ascending range list
      (λ i j d le below. up (suc i) (suc j) d (omega (arith, le)) (omega (arith, below))),
)

-- ranges that begin in ascending order behind one do so behind any of its start
same_start : (one other : AddressRange) (list : List AddressRange) → one.start ≡ other.start → Ascend other list → Ascend one list
same_start one other [] same up = tt
same_start one other (range ∷ list) same up = (omega (arith, same, up.0), up.1)

-- of two ranges one holds another just where one does with the second as far as the first reaches
holds_more : (start end a len b more : ℕ) → a ≤ b
    → ((leb a start && leb end (a + len)) || (leb b start && leb end (b + max more (len - (b - a)))))
    ≡ ((leb a start && leb end (a + len)) || (leb b start && leb end (b + more)))
holds_more start end a len b more le = grind (arith, nat_tests)

-- with the earlier one they hold what they held
still_held : (start end : ℕ) (earlier : AddressRange) (list : List AddressRange) → Ascend earlier list
    → (is_held start end earlier || list_any (is_held start end) (all_lengthened earlier list))
    ≡ (is_held start end earlier || list_any (is_held start end) list)
still_held start end earlier [] up = refl
still_held start end earlier (range ∷ list) up =
    let longer = lengthened earlier range in
    let held = is_held start end in
    ap (λ b. held earlier || b) (still_held start end longer list (same_start longer range list refl up.1))
    ∙ sym (or_regroups (held earlier) (held longer) (list_any held list))
    ∙ ap (λ b. b || list_any held list) (holds_more start end earlier.start earlier.len range.start range.len up.0)
    ∙ or_regroups (held earlier) (held range) (list_any held list)

-- a range behind the empty one at address 0 isn't lengthened
first_is : (range : AddressRange) → lengthened nothing range ≡ range
first_is range = let same : max range.len (0 - (range.start - 0)) ≡ range.len = omega arith in λ i. record { start = range.start; len = same i }

-- all hold what they held
pub hold_same : (list : List AddressRange) → IsNonDecreasingBy start_of list → HoldSame list (all_lengthened nothing list)
hold_same [] up start end = refl
hold_same (range ∷ list) up start end =
    ap (λ one. list_any (is_held start end) (one ∷ all_lengthened one list)) (first_is range)
    ∙ still_held start end range list (ascending range list up)

-- one more in front, of no greater number, and all are still in ascending order
up_from : {X : Type 0} (n : X → ℕ) (x y : X) (ys : List X) → n x ≤ n y → IsNonDecreasingBy n (y ∷ ys) → IsNonDecreasingBy n (x ∷ y ∷ ys)
up_from n x y ys le up zero zero d ij below = omega arith
up_from n x y ys le up zero (suc j) d ij below =
    let rest : n y ≤ n (get_or (y ∷ ys) j d) = up zero j d (omega arith) (omega (arith, below)) in
    omega (arith, le, rest)
up_from n x y ys le up (suc i) zero d ij below = absurd (omega (arith, ij))
up_from n x y ys le up (suc i) (suc j) d ij below = up i j d (omega (arith, ij)) (omega (arith, below))

-- a lengthened range ends no earlier than the one before it
reaches_more : (a len b more : ℕ) → a ≤ b → a + len ≤ b + max more (len - (b - a))
reaches_more a len b more le = omega (arith, le)

-- lengthened ranges are in ascending order of their starts
starts_up : (earlier : AddressRange) (list : List AddressRange) → Ascend earlier list → IsNonDecreasingBy start_of (earlier ∷ all_lengthened earlier list)
starts_up earlier [] up = IsNonDecreasingBy-short start_of (earlier ∷ []) (omega arith)
starts_up earlier (range ∷ list) up =
    let longer = lengthened earlier range in
    up_from start_of earlier longer (all_lengthened longer list) up.0 (starts_up longer list (same_start longer range list refl up.1))

-- lengthened ranges are in ascending order of their ends
ends_up : (earlier : AddressRange) (list : List AddressRange) → Ascend earlier list → IsNonDecreasingBy end_of (earlier ∷ all_lengthened earlier list)
ends_up earlier [] up = IsNonDecreasingBy-short end_of (earlier ∷ []) (omega arith)
ends_up earlier (range ∷ list) up =
    let longer = lengthened earlier range in
    up_from end_of earlier longer (all_lengthened longer list) (reaches_more earlier.start earlier.len range.start range.len up.0)
    (ends_up longer list (same_start longer range list refl up.1))

-- ranges lengthened behind a first one ascend at both ends together with it
both_ascend : (range : AddressRange) (list : List AddressRange) → Ascend range list → AscendAtBothEnds (range ∷ all_lengthened range list)
both_ascend range list up = record {
  starts = starts_up range list up;
  ends = ends_up range list up;
}

-- and they ascend at both ends
pub ascend_lengthened : (list : List AddressRange) → IsNonDecreasingBy start_of list → AscendAtBothEnds (all_lengthened nothing list)
ascend_lengthened [] up = record {
  starts = IsNonDecreasingBy-short start_of [] (omega arith);
  ends = IsNonDecreasingBy-short end_of [] (omega arith);
}
ascend_lengthened (range ∷ list) up = subst (λ one. AscendAtBothEnds (one ∷ all_lengthened one list)) (sym (first_is range))
    (both_ascend range list (ascending range list up))

-- one of some numbers is at least an end just where the last is, if it is the greatest
farther : (end count a b : ℕ) → (0 < count → a ≤ b) → ((ltb 0 count && leb end a) || leb end b) ≡ (ltb 0 (count + 1) && leb end b)
farther end count a b le = grind (arith, nat_tests)

-- of numbers that ascend the last is the greatest
last_is_farthest : {X : Type 0} (n : X → ℕ) (end : ℕ) (xs : List X) (count : ℕ) (d : X) → count ≤ length xs → IsNonDecreasingBy n xs
    → list_any (λ x. leb end (n x)) (take count xs) ≡ (ltb 0 count && leb end (n (get_or xs (count - 1) d)))
last_is_farthest n end xs zero d below up = refl
last_is_farthest n end xs (suc count) d below up =
    let one : suc count ≡ count + 1 = omega arith in
    let last : suc count - 1 ≡ count = omega arith in
    ap (λ k. list_any (λ x. leb end (n x)) (take k xs)) one
    ∙ list_any_more (λ x. leb end (n x)) xs count d (omega (arith, below))
    ∙ ap (λ b. b || leb end (n (get_or xs count d))) (last_is_farthest n end xs count d (omega (arith, below)) up)
    ∙ farther end count (n (get_or xs (count - 1) d)) (n (get_or xs count d)) (λ some. up (count - 1) count d (omega arith) (omega (arith, below)))
    ∙ ap (λ k. ltb 0 k && leb end (n (get_or xs count d))) (sym one)
    ∙ ap (λ k. ltb 0 (suc count) && leb end (n (get_or xs k d))) (sym last)

-- a range is held where the last that begins at or before it reaches its end
pub inside : (start end : ℕ) (list : List AddressRange) (begun : ℕ) (d : AddressRange) → AscendAtBothEnds list → begun ≤ length list
    → IsPartitionPoint (λ (range : AddressRange). leb range.start start ≡ true) (λ (range : AddressRange). leb range.start start ≡ false) list begun
    → list_any (is_held start end) list ≡ (ltb 0 begun && leb end (end_of (get_or list (begun - 1) d)))
inside start end list begun d ascend below parted =
    any_front (is_held start end) (λ (range : AddressRange). leb end (end_of range)) list begun
    (λ k d before. ap (λ b. b && leb end (end_of (get_or list k d))) (parted.0 k d (omega arith) before))
    (λ k d from before. ap (λ b. b && leb end (end_of (get_or list k d))) (parted.1 k d from before))
    ∙ last_is_farthest end_of end list begun d below ascend.ends
