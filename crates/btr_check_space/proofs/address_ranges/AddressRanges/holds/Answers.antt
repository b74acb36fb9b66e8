use Rattle.std.proofs.Common.{◌≡◌, ◌≢◌, ℕ, ◌-◌, ◌<◌, ◌≤◌, Bool, ◌&&◌, true, false, List, length, get_or, leb, ltb, sym, ap, subst, ◌∙◌, arith, rules}
use Rattle.std.proofs.lemmas.Bool.Decides.{nat_tests}
use Rattle.std.proofs.lemmas.List.Sorted.{IsPartitionPoint-from_clause, IsPartitionedBy-leb}
use Rattle.std.specs.List.{list_any}
use Rattle.std.specs.List.Sorted.{IsPartitionedBy, IsPartitionPoint}
use Rattle.btr_check_space.specs.AddressRanges.{AscendAtBothEnds, end_of, is_held}
use Rattle.btr_check_space.specs.declared.address_ranges.AddressRange.{AddressRange}
use Rattle.btr_check_space.proofs.Elements.{default_free}
use Rattle.btr_check_space.proofs.Reaching.{inside, nothing, start_of}
use Rattle.btr_check_space.proofs.address_ranges.AddressRanges.holds.Goals as goal

-- what a look-up in the ranges tells
looked_up : (start end : ℕ) (slice list view : List AddressRange) (begun : ℕ) → slice ≡ list → list ≡ view → AscendAtBothEnds list → begun ≤ length slice
    → (IsPartitionedBy (λ (range : AddressRange). leb range.start start) slice
    → IsPartitionPoint (λ (range : AddressRange). leb range.start start ≡ true) (λ (range : AddressRange). leb range.start start ≡ false) slice begun)
    → list_any (is_held start end) view ≡ (ltb 0 begun && leb end (end_of (get_or list (begun - 1) nothing)))
looked_up start end slice list view begun same seen kept bound point =
    let ascend : AscendAtBothEnds slice = subst AscendAtBothEnds (sym same) kept in
    ap (list_any (is_held start end)) (sym (same ∙ seen))
    ∙ inside start end slice begun nothing ascend bound (point (IsPartitionedBy-leb start_of slice start ascend.starts))
    ∙ ap (λ all. ltb 0 begun && leb end (end_of (get_or all (begun - 1) nothing))) same

none_begun : (begun : ℕ) (reaches : Bool) → begun ≡ 0 → (ltb 0 begun && reaches) ≡ false
none_begun begun reaches is = grind (arith, nat_tests)

some_begun : (begun : ℕ) (reaches : Bool) → begun ≢ 0 → (ltb 0 begun && reaches) ≡ reaches
some_begun begun reaches is = grind (arith, nat_tests)

pub returns-then-begun-eq0 : goal.returns-then-begun-eq0
returns-then-begun-eq0 c =
    let begun = c.partition_point-begun.result in
    let list = c.self.inside.ranges.items in
    let clause = c.partition_point-begun.ensures in
    sym
    (looked_up c.args.start c.args.end c.deref.result.now list c.args.self.now begun c.deref.ensures.value c.self.view_is c.self.invariant clause.bound
    (λ parted. IsPartitionPoint-from_clause (λ (range : AddressRange). leb range.start c.args.start) c.deref.result.now begun clause.partitioned parted
    (λ a r q k. search rules))
    ∙ none_begun begun (leb c.args.end (end_of (get_or list (begun - 1) nothing))) c.if-begun-eq0.true)

pub returns : goal.returns
returns c =
    let begun = c.partition_point-begun.result in
    let list = c.self.inside.ranges.items in
    let clause = c.partition_point-begun.ensures in
    let below : begun - 1 < length list = omega (arith, clause.bound, ap length c.deref.ensures.value, c.if-begun-eq0.false) in
    let last : c.end_of.result ≡ end_of (get_or list (begun - 1) nothing) =
    c.end_of.ensures ∙ ap end_of (c.index.ensures ∙ default_free list (begun - 1) c.index.result.now nothing below) in
    ap (leb c.args.end) last
    ∙ sym
    (looked_up c.args.start c.args.end c.deref.result.now list c.args.self.now begun c.deref.ensures.value c.self.view_is c.self.invariant clause.bound
    (λ parted. IsPartitionPoint-from_clause (λ (range : AddressRange). leb range.start c.args.start) c.deref.result.now begun clause.partitioned parted
    (λ a r q k. search rules))
    ∙ some_begun begun (leb c.args.end (end_of (get_or list (begun - 1) nothing))) c.if-begun-eq0.false)
