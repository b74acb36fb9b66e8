use Rattle.std.proofs.Common.{◌≡◌, [], ◌∙◌, sym, ap, rules, true, subst, length}
use Rattle.std.proofs.lemmas.List.Sorted.{answers_always}
use Rattle.std.specs.List.{AllAdjacentBelow}
use Rattle.std.specs.Ordering.{is_lt}
use Rattle.btr_refs.specs.Counts.{counted_all}
use Rattle.btr_refs.specs.declared.counted.Counted.{Counted}
use Rattle.btr_refs.specs.RefKey.{ref_cmp}
use Rattle.btr_refs.proofs.Listing.{ascends_by, own_map, shuffled}
use Rattle.btr_refs.proofs.ref_list.RefList.of.Goals as goal

pub invariant_of-result : goal.invariant_of-result
invariant_of-result c =
    ascends_by c.sort_unstable_by_key.new.self.items
    (subst (λ refs. AllAdjacentBelow (λ (one next : Counted). true ≡ is_lt (ref_cmp one.key next.key)) refs (length refs)) c.deref.ensures.value
    (c.if-is_sorted_by.ensures.cases (λ (one next : Counted). is_lt (ref_cmp one.key next.key)) (answers_always _ _ _ (λ f a r g called. search rules))))

pub returns-then-is_sorted_by : goal.returns-then-is_sorted_by
returns-then-is_sorted_by c =
    let sorted = c.sort_unstable_by_key.new.self.items in
    own_map sorted (invariant_of-result c) ∙ sym (shuffled c.args.refs.items sorted c.sort_unstable_by_key.ensures.permutation)

pub returns : goal.returns
returns c =
    let sorted = c.sort_unstable_by_key.new.self.items in
    c.in_ok-refs.ensures.same ∙ c.in_ok-summed.ensures ∙ ap (counted_all []) c.deref-2.ensures.value
    ∙ sym (shuffled c.args.refs.items sorted c.sort_unstable_by_key.ensures.permutation)
