use Rattle.std.proofs.Common.{Err, get_or, rules}
use Rattle.std.proofs.lemmas.List.Sorted.{answers_always}
use Rattle.btr_check_names.specs.Slots.{Slot}
use Rattle.btr_check_names.proofs.Slotted.{is_not_above, searched}
use Rattle.btr_check_names.proofs.ascending.place.Goals as goal

pub returns-in-Ok-clause-found : goal.returns-in-Ok-clause-found
returns-in-Ok-clause-found c =
    let equal = c.in-Ok.ensures.position (λ (slot : Slot). slot.claim) (answers_always _ _ _ (λ f a r g called. search rules)) in
    record { in_range = c.in-Ok.ensures.bound; is = equal }

pub returns-in-Err-clause-absent : goal.returns-in-Err-clause-absent
returns-in-Err-clause-absent c =
    let by_claim = c.in-Err.ensures.position (λ (slot : Slot). slot.claim) (answers_always _ _ _ (λ f a r g called. search rules)) in
    (searched c.args.slots.now c.args.claim.now c.requires (Err c.in-Err.field-0) c.in-Err.ensures.bound by_claim).absent

pub returns-then-is_above-clause-absent : goal.returns-then-is_above-clause-absent
returns-then-is_above-clause-absent c = λ k d in_range.
    is_not_above (get_or c.args.slots.now k d).claim c.args.claim.now (c.is_above.ensures c.if-is_above.true k d in_range)
