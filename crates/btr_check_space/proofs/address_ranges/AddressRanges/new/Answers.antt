use Rattle.std.proofs.Common.{◌≡◌, take, drop, length, ◌++◌, sym, subst, ap, ◌∙◌, rules, arith}
use Rattle.std.proofs.lemmas.Grind.{common_steps}
use Rattle.std.proofs.lemmas.List.Sorted.{IsNonDecreasingBy-from_sort_by_key, list_any-IsPermutation}
use Rattle.std.specs.List.{list_any}
use Rattle.std.specs.List.Sorted.{IsNonDecreasingBy}
use Rattle.btr_check_space.specs.AddressRanges.{is_held}
use Rattle.btr_check_space.proofs.Reaching.{start_of}
use Rattle.btr_check_space.proofs.address_ranges.AddressRanges.new.Goals as goal

pub lengthen-requires : goal.lengthen-requires
lengthen-requires c =
    subst (IsNonDecreasingBy start_of) (sym c.deref_mut.ensures.value)
    (IsNonDecreasingBy-from_sort_by_key start_of c.sort_unstable_by_key.new.self.items c.sort_unstable_by_key.ensures.sorted (λ a r q k. search rules))

pub returns : goal.returns
returns c = λ start end.
    let held = is_held start end in
    let sorted = c.sort_unstable_by_key.new.self.items in
    let new = c.lengthen.new.ranges in
    let same : take c.sort_unstable_by_key.new.self.len (new ++ drop (length new) sorted) ≡ new = grind (arith, common_steps) in
    ap (list_any held) same
    ∙ c.lengthen.ensures.same start end
    ∙ ap (list_any held) c.deref_mut.ensures.value
    ∙ sym (list_any-IsPermutation held c.args.ranges.items sorted c.sort_unstable_by_key.ensures.permutation)
