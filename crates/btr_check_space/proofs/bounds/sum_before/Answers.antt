use Rattle.std.proofs.Common.{◌≡◌, ℕ, ◌<◌, length, ltb, ap, ◌∙◌, arith, rules}
use Rattle.std.proofs.lemmas.List.Sorted.{IsPartitionPoint-from_clause, IsPartitionedBy-ltb}
use Rattle.btr_check_space.specs.Bounds.{before}
use Rattle.btr_check_space.proofs.Between.{stands_at}
use Rattle.btr_check_space.proofs.bounds.sum_before.Goals as goal

pub bounds-sums-place : goal.bounds-sums-place
bounds-sums-place c =
    let bounds = c.args.bounds.now in
    let place = c.partition_point-place.result in
    let parted = IsPartitionedBy-ltb (λ (n : ℕ). n) bounds c.args.bound c.requires.ascend in
    let point = IsPartitionPoint-from_clause (λ (n : ℕ). ltb n c.args.bound) bounds place
    c.partition_point-place.ensures.partitioned parted (λ a r q k. search rules) in
    let inside : place < length bounds = (stands_at bounds c.args.bound place c.requires.ascend c.requires.bound point).0 in
    omega (arith, inside, c.requires.long)

pub returns : goal.returns
returns c = λ extents sums.
    let bounds = c.args.bounds.now in
    let place = c.partition_point-place.result in
    let parted = IsPartitionedBy-ltb (λ (n : ℕ). n) bounds c.args.bound c.requires.ascend in
    let point = IsPartitionPoint-from_clause (λ (n : ℕ). ltb n c.args.bound) bounds place
    c.partition_point-place.ensures.partitioned parted (λ a r q k. search rules) in
    let at = stands_at bounds c.args.bound place c.requires.ascend c.requires.bound point in
    sums.each place at.0 ∙ ap (before extents) at.1
