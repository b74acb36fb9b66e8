use Rattle.std.proofs.Common.{◌≡◌, Bool, true, leb, leb-true, rules, sym, subst, length}
use Rattle.std.proofs.lemmas.List.Sorted.{IsNonDecreasingBy-from_all_adjacent, answers_always}
use Rattle.std.specs.List.{AllAdjacentBelow, IsAllAdjacentAnswer}
use Rattle.btr_findings.specs.declared.extent.Extent.{Extent}
use Rattle.btr_refs.proofs.Extents.{addr_in}
use Rattle.btr_refs.proofs.extent_list.ascend.Goals as goal

abbrev is_next : Extent → Extent → Bool
is_next one next = leb one.addr next.addr

pub returns : goal.returns
returns c = λ is.
    let extents = c.args.extents.now in
    let all : AllAdjacentBelow (λ (one next : Extent). true ≡ is_next one next) extents (length extents) =
    subst (IsAllAdjacentAnswer (λ (one next : Extent) (b : Bool). b ≡ is_next one next) extents) is
    (c.is_sorted_by.ensures.cases is_next (answers_always _ _ _ (λ f a r g called. search rules))) in
    IsNonDecreasingBy-from_all_adjacent addr_in extents (λ k d lt. leb-true _ _ (sym (all k d lt)))
