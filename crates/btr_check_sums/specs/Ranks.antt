-- How many numbers are at most another, and sets of numbers.
use Rattle.std.specs.Prelude.{◌≡◌, ℕ, ◌+◌, ◌*◌, ◌==◌, nat_le, List, map, count_by}
use Rattle.std.specs.BTreeSet.{BTreeSet, contains}
use Rattle.std.specs.List.{list_any}
use Rattle.std.specs.List.Sorted.{IsPermutation, IsNonDecreasingBy}
use Rattle.std.specs.Ordering.{nat_cmp}
use Rattle.btr_items.specs.declared.sum_run.SumRun.{SumRun}

-- the same numbers in ascending order
pub record IsSortedOf (numbers sorted : List ℕ) : Type 0 where
  pub same : IsPermutation numbers sorted
  pub ascend : IsNonDecreasingBy (λ n. n) sorted

-- how many numbers are at most another
abbrev pub rank : List ℕ → ℕ → ℕ
rank numbers at = count_by (λ n. nat_le n at) numbers

-- where a run begins
abbrev pub run_start : SumRun → ℕ
run_start run = run.start

-- where a run ends
abbrev pub run_end : SumRun → ℕ
run_end run = run.start + run.count * 4096

-- the starts and the ends of runs in ascending order
pub record Bounds (runs : List SumRun) (starts ends : List ℕ) : Type 0 where
  pub of_starts : IsSortedOf (map run_start runs) starts
  pub of_ends : IsSortedOf (map run_end runs) ends

-- a set has the inodes whose data has no checksums
abbrev pub Inodes : List ℕ → BTreeSet ℕ → Type 0
Inodes loose set = (one : ℕ) → contains nat_cmp set one ≡ list_any (λ inode. inode == one) loose
