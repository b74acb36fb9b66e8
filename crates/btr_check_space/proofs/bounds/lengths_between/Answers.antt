use Rattle.std.proofs.Common.{◌≡◌, ℕ, ◌+◌, ◌++◌, true, false, take, drop, length, get_or, leb, None, sym, ap, subst, ◌∙◌, arith, rules}
use Rattle.std.proofs.lemmas.Grind.{common_steps}
use Rattle.std.proofs.lemmas.List.Sorted.{IsPartitionPoint-from_clause, IsPartitionedBy-leb}
use Rattle.std.specs.List.Sorted.{IsPartitionPoint}
use Rattle.btr_findings.specs.declared.extent.Extent.{Extent}
use Rattle.btr_check_space.specs.Bounds.{AreLengthsBetween, Lengthened}
use Rattle.btr_check_space.proofs.Between.{apart_more}
use Rattle.btr_check_space.proofs.bounds.lengths_between.Goals as goal

abbrev nothing : Extent
nothing = record { addr = 0; len = 0; refs = 0; flags = 0; level = None }

pub loop-extent-preserved : goal.loop-extent-preserved
loop-extent-preserved c =
    let extents = c.args.extents.now in
    let bounds = c.args.bounds.now in
    let i = c.loop-extent.extent-index in
    let extent : Extent = get_or extents i nothing in
    let place = c.partition_point-place.result in
    let addr = c.from-addr.result in
    let old = c.loop-extent.lengths.items in
    let new = c.lengthen.new.lengths in
    let same : take c.loop-extent.lengths.len (new ++ drop (length new) old) ≡ new = grind (arith, common_steps) in
    let long : length new ≡ length old = c.in_ok-lengthen.ensures.long ∙ ap length c.deref_mut.ensures.value in
    let more : Lengthened place extent.len old new = subst (λ l. Lengthened place extent.len l new) c.deref_mut.ensures.value c.in_ok-lengthen.ensures.sums in
    let point = IsPartitionPoint-from_clause (λ (n : ℕ). leb n addr) bounds place c.partition_point-place.ensures.partitioned
    (IsPartitionedBy-leb (λ (n : ℕ). n) bounds addr c.requires) (λ a r q k. search rules) in
    let parted : IsPartitionPoint (λ (n : ℕ). leb n extent.addr ≡ true) (λ (n : ℕ). leb n extent.addr ≡ false) bounds place =
    subst (λ t. IsPartitionPoint (λ (n : ℕ). leb n t ≡ true) (λ (n : ℕ). leb n t ≡ false) bounds place) c.from-addr.ensures point in
    subst (AreLengthsBetween (take (i + 1) extents) bounds) (sym same)
    (apart_more extents bounds old new i place nothing c.loop-extent-test.true parted c.loop-extent.invariant long more)
