-- How many runs cover a sector.
use Rattle.std.proofs.Common.{◌≡◌, ℕ, ◌+◌, ◌*◌, ◌-◌, ◌^◌, ◌<◌, ◌≤◌, true, false, ◌&&◌, ◌⊎◌, inl, inr, List, [], ◌∷◌, map, cond, get_or, length, take, sum_by}
use Rattle.std.proofs.Common.{count_by, leb, ltb, refl, sym, ap, ◌∙◌, arith}
use Rattle.std.proofs.lemmas.Bool.{cases_lt}
use Rattle.std.proofs.lemmas.Bool.Decides.{nat_tests}
use Rattle.std.proofs.lemmas.List.{length-take}
use Rattle.std.proofs.lemmas.List.Folds.{fold-map}
use Rattle.std.proofs.lemmas.List.Sorted.{sum_by-IsPermutation}
use Rattle.std.proofs.lemmas.List.Sums.{sum_by-cons}
use Rattle.std.specs.List.Sorted.{IsNonDecreasingBy, IsPermutation, IsPartitionPoint}
use Rattle.btr_items.specs.declared.sum_run.SumRun.{SumRun}
use Rattle.btr_check_space.proofs.Prefixes.{sum_front, sum_both}
use Rattle.btr_check_space.proofs.Elements.{default_free}
use Rattle.btr_check_space.proofs.Standing.{Parted, parted_behind, still_parted}
use Rattle.btr_check_sums.specs.Broken.{RankReaches, number_or_last}
use Rattle.btr_check_sums.specs.Ranks.{rank, run_start, run_end, Bounds}
use Rattle.btr_check_sums.specs.Sums.{covers}

-- a sum of ones is how many there are
ones : (xs : List ℕ) → sum_by (λ n. 1) xs ≡ length xs
ones [] = refl
ones (x ∷ xs) =
    let rest : sum_by (λ n. 1) xs ≡ length xs = ones xs in
    let all : sum_by (λ n. 1) (x ∷ xs) ≡ 1 + sum_by (λ n. 1) xs = sum_by-cons (λ n. 1) x xs in
    omega arith

-- the place up to which numbers are at most another is how many are
pub rank_is : (numbers : List ℕ) (at place : ℕ) → place ≤ length numbers
    → IsPartitionPoint (λ n. leb n at ≡ true) (λ n. leb n at ≡ false) numbers place → place ≡ rank numbers at
rank_is numbers at place within parted =
    let front : rank numbers at ≡ sum_by (λ n. 1) (take place numbers) =
    sum_front (λ n. cond (leb n at) 1 0) (λ n. 1) numbers place
    (λ k d below. ap (λ b. cond b 1 0) (parted.0 k d (omega arith) below))
    (λ k d from below. ap (λ b. cond b 1 0) (parted.1 k d from below)) in
    omega (arith, front, ones (take place numbers), length-take place numbers)

-- in whatever order they stand
rank_same : (numbers sorted : List ℕ) (at : ℕ) → IsPermutation numbers sorted → rank sorted at ≡ rank numbers at
rank_same numbers sorted at same = sum_by-IsPermutation (λ n. cond (leb n at) 1 0) numbers sorted same

-- how many numbers of runs are at most one is how many runs have such a number
rank_map : (number : SumRun → ℕ) (runs : List SumRun) (at : ℕ) → rank (map number runs) at ≡ count_by (λ run. leb (number run) at) runs
rank_map number runs at = fold-map (λ a n. a + cond (leb n at) 1 0) number 0 runs

-- a run that begins at a sector or before it covers the sector, or ends at it or before it
parts : (start size sector : ℕ) → cond (leb start sector && ltb sector (start + size)) 1 0 + cond (leb (start + size) sector) 1 0 ≡ cond (leb start sector) 1 0
parts start size sector = grind (arith, nat_tests)

-- those that cover a sector, and those that end before it, are those that begin before it
begun : (sector : ℕ) (runs : List SumRun) → count_by (covers sector) runs + count_by (λ run. leb (run_end run) sector) runs
    ≡ count_by (λ run. leb (run_start run) sector) runs
begun sector runs = sum_both _ _ (λ (run : SumRun). cond (leb run.start sector) 1 0) runs (λ run. parts run.start (run.count * 4096) sector)

-- no more than one run covers just where those that have begun are at most one more than those that have ended
at_most_one : (all ended covering : ℕ) → covering + ended ≡ all → leb all (ended + 1) ≡ leb covering 1
at_most_one all ended covering e = grind (arith, nat_tests)

-- no more than one covers a sector
pub summed_once : (sector : ℕ) (runs : List SumRun) (starts ends : List ℕ) → Bounds runs starts ends → leb (rank starts sector) (rank ends sector + 1)
    ≡ leb (count_by (covers sector) runs) 1
summed_once sector runs starts ends bounds =
    let first : rank starts sector ≡ count_by (λ run. leb (run_start run) sector) runs =
    rank_same (map run_start runs) starts sector bounds.of_starts.same ∙ rank_map run_start runs sector in
    let last : rank ends sector ≡ count_by (λ run. leb (run_end run) sector) runs =
    rank_same (map run_end runs) ends sector bounds.of_ends.same ∙ rank_map run_end runs sector in
    let all : count_by (covers sector) runs + rank ends sector ≡ rank starts sector =
    ap (λ n. count_by (covers sector) runs + n) last ∙ begun sector runs ∙ sym first in
    at_most_one (rank starts sector) (rank ends sector) (count_by (covers sector) runs) all

-- up to before the next number, as many are at most one
pub rank_stays : (numbers : List ℕ) (at place until : ℕ) → IsNonDecreasingBy (λ n. n) numbers → place ≤ length numbers
    → Parted (λ n. n) numbers at place → at < 2 ^ 127 → until ≡ number_or_last numbers place
    → RankReaches numbers at (record { rank = place; until = until })
rank_stays numbers at place until up within point small is = by (cases_lt place (length numbers))
  where
    by : (place < length numbers) ⊎ (length numbers ≤ place) → RankReaches numbers at (record { rank = place; until = until })
    by (inl below) =
        let tests : ltb place (length numbers) ≡ true = grind (arith, nat_tests) in
        let next : until ≡ get_or numbers place 0 = is ∙ ap (λ b. cond b (get_or numbers place 0) (2 ^ 128 - 1)) tests in
        record {
          some = let behind : at < get_or numbers place 0 = parted_behind (λ n. n) numbers place at 0 point below in omega (arith, behind, next);
          same = λ other from before. sym (rank_is numbers other place within (still_parted (λ n. n) numbers up place at other point from (λ d inside.
              let here : get_or numbers place 0 ≡ get_or numbers place d = default_free numbers place 0 d inside in
              omega (arith, before, next, here))));
        }
    by (inr none) =
        let tests : ltb place (length numbers) ≡ false = grind (arith, nat_tests) in
        let last : until ≡ 2 ^ 128 - 1 = is ∙ ap (λ b. cond b (get_or numbers place 0) (2 ^ 128 - 1)) tests in
        record {
          some = omega (arith, small, last);
          same = λ other from before. sym (rank_is numbers other place within
              (still_parted (λ n. n) numbers up place at other point from (λ d inside. absurd (omega (arith, inside, none)))));
        }
