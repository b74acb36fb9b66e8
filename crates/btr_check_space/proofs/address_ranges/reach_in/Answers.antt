use Rattle.std.proofs.Common.{◌+◌, ◌<◌, ◌≤◌, leb, arith, rules}
use Rattle.std.proofs.lemmas.List.Sorted.{IsPartitionPoint-from_clause, IsPartitionedBy-leb}
use Rattle.btr_check_space.specs.AddressRanges.{end_before, start_behind}
use Rattle.btr_check_space.specs.declared.address_ranges.AddressRange.{AddressRange}
use Rattle.btr_check_space.proofs.Reaching.{start_of}
use Rattle.btr_check_space.proofs.Standing.{Begun, behind_start, reach_apart, reach_held}
use Rattle.btr_check_space.proofs.address_ranges.reach_in.Goals as goal

pub returns-then-start-from : goal.returns-then-start-from
returns-then-start-from c =
    let list = c.args.ranges.now in
    let start = c.args.start in
    let len = c.args.len in
    let begun = c.partition_point-begun.result in
    let clause = c.partition_point-begun.ensures in
    let point : Begun list start begun = IsPartitionPoint-from_clause (λ (range : AddressRange). leb range.start start) list begun clause.partitioned
    (IsPartitionedBy-leb start_of list start c.requires.ascend.starts) (λ a r q k. search rules) in
    let held : start + len ≤ end_before list begun = omega (arith, c.if-start-from.true, c.from.ensures, c.end_before-end.ensures) in
    record {
      some = omega (arith, c.if-start-from.true, c.from.ensures, c.from-then-start-from.ensures);
      same = λ at from before. reach_held list c.requires.ascend begun start len clause.bound point held c.requires.len at from
          (omega (arith, before, c.from-then-start-from.ensures, c.end_before-end.ensures));
    }

pub returns-else-start-from : goal.returns-else-start-from
returns-else-start-from c =
    let list = c.args.ranges.now in
    let start = c.args.start in
    let len = c.args.len in
    let begun = c.partition_point-begun.result in
    let clause = c.partition_point-begun.ensures in
    let point : Begun list start begun = IsPartitionPoint-from_clause (λ (range : AddressRange). leb range.start start) list begun clause.partitioned
    (IsPartitionedBy-leb start_of list start c.requires.ascend.starts) (λ a r q k. search rules) in
    let short : end_before list begun < start + len = omega (arith, c.if-start-from.false, c.from.ensures, c.end_before-end.ensures) in
    record {
      some =
          let next : start < start_behind list begun = behind_start list c.requires.ascend begun start len clause.bound point c.requires.start in
          omega (arith, next, c.start_behind-until.ensures);
      same = λ at from before. reach_apart list c.requires.ascend begun start len clause.bound point short at from
          (omega (arith, before, c.start_behind-until.ensures));
    }
