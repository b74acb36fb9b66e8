use Rattle.std.proofs.Common.{◌-◌, length, ltb, leb, rules}
use Rattle.std.proofs.lemmas.List.Sorted.{IsNonDecreasingBy-drop, IsNonDecreasingBy-take, IsPartitionPoint-from_clause, IsPartitionedBy-leb}
use Rattle.std.proofs.lemmas.List.Sorted.{IsPartitionedBy-ltb}
use Rattle.btr_findings.specs.declared.extent.Extent.{Extent}
use Rattle.btr_refs.proofs.Extents.{addr_in, all_within, from_first}
use Rattle.btr_refs.proofs.extent_list.within.Goals as goal

pub returns : goal.returns
returns c =
    let addr = c.args.addr in
    let extents = c.args.extents.now in
    let first = c.partition_point-first.result in
    let rest = from_first addr extents first c.partition_point-count.result in
    let rest_rise = IsNonDecreasingBy-take addr_in (length extents - first) _ (IsNonDecreasingBy-drop addr_in first extents c.requires) in
    all_within addr extents first c.partition_point-count.result c.partition_point-first.ensures.bound
    (IsPartitionPoint-from_clause (λ (one : Extent). ltb (addr_in one) addr) extents first c.partition_point-first.ensures.partitioned
    (IsPartitionedBy-ltb addr_in extents addr c.requires) (λ a r q k. search rules))
    c.partition_point-count.ensures.bound
    (IsPartitionPoint-from_clause (λ (one : Extent). leb (addr_in one) addr) rest c.partition_point-count.result c.partition_point-count.ensures.partitioned
    (IsPartitionedBy-leb addr_in rest addr rest_rise) (λ a r q k. search rules))
