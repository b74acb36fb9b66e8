use Rattle.std.proofs.Common.{leb, rules}
use Rattle.std.proofs.lemmas.List.Sorted.{IsPartitionPoint-from_clause, IsPartitionedBy-leb}
use Rattle.btr_check_space.proofs.Standing.{Parted}
use Rattle.btr_check_sums.proofs.Counts.{rank_stays}
use Rattle.btr_check_sums.proofs.overlaps.rank_reach.Goals as goal

pub returns : goal.returns
returns c =
    let numbers = c.args.numbers.now in
    let at = c.args.at in
    let place = c.partition_point-rank.result in
    let clause = c.partition_point-rank.ensures in
    let point : Parted (λ n. n) numbers at place =
    IsPartitionPoint-from_clause (λ n. leb n at) numbers place clause.partitioned (IsPartitionedBy-leb (λ n. n) numbers at c.requires.ascend)
    (λ a r q k. search rules) in
    rank_stays numbers at place c.number_at-until.result c.requires.ascend clause.bound point c.requires.at c.number_at-until.ensures
