use Rattle.std.proofs.Common.{◌-◌, length, ltb, leb, rules}
use Rattle.std.proofs.lemmas.List.Sorted.{IsNonDecreasingBy-drop, IsNonDecreasingBy-take, IsPartitionPoint-from_clause, IsPartitionedBy-leb}
use Rattle.std.proofs.lemmas.List.Sorted.{IsPartitionedBy-ltb}
use Rattle.btr_refs.specs.declared.counted.Counted.{Counted}
use Rattle.btr_refs.proofs.Listing.{addr_of, addresses_rise, all_within, from_first}
use Rattle.btr_refs.proofs.ref_list.refs_at.Goals as goal

pub returns : goal.returns
returns c =
    let addr = c.args.addr in
    let refs = c.args.refs.now in
    let first = c.partition_point-first.result in
    let rise = addresses_rise refs c.requires in
    let rest = from_first addr refs first c.partition_point-count.result in
    let rest_rise = IsNonDecreasingBy-take addr_of (length refs - first) _ (IsNonDecreasingBy-drop addr_of first refs rise) in
    all_within addr refs first c.partition_point-count.result c.partition_point-first.ensures.bound
    (IsPartitionPoint-from_clause (λ (one : Counted). ltb (addr_of one) addr) refs first c.partition_point-first.ensures.partitioned
    (IsPartitionedBy-ltb addr_of refs addr rise) (λ a r q k. search rules))
    c.partition_point-count.ensures.bound
    (IsPartitionPoint-from_clause (λ (one : Counted). leb (addr_of one) addr) rest c.partition_point-count.result c.partition_point-count.ensures.partitioned
    (IsPartitionedBy-leb addr_of rest addr rest_rise) (λ a r q k. search rules))
