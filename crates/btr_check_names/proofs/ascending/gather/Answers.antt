use Rattle.std.proofs.Common.{◌≡◌, length, ap, sym, subst, ◌∙◌, eqb-true, arith}
use Rattle.std.proofs.lemmas.List.{take_at}
use Rattle.std.proofs.lemmas.List.Elements.{All-filter}
use Rattle.btr_check_names.specs.Slots.{Ascends, IsInside, listed, waits}
use Rattle.btr_check_names.proofs.Slotted.{all_gone, kept_ascend, kept_few, listed_filter}
use Rattle.btr_check_names.proofs.ascending.gather.Goals as goal

pub returns-then-is_empty-clause-same : goal.returns-then-is_empty-clause-same
returns-then-is_empty-clause-same c =
    let none : length c.drop_gone.new.slots.items ≡ 0 = omega (arith, eqb-true _ _ (sym c.is_empty.ensures ∙ c.if-is_empty.true), c.drop_gone.new.slots.ok) in
    all_gone c.args.names.now.items c.clear.new.self.items c.args.slots.now.items c.drop_gone.new.slots.items c.drop_gone.ensures none

pub moved-requires-clause-ascends : goal.moved-requires-clause-ascends
moved-requires-clause-ascends c =
    subst Ascends (sym (c.deref_mut.ensures.value ∙ c.shrink_to_fit.ensures.items ∙ c.drop_gone.ensures))
    (kept_ascend c.args.slots.now.items c.requires.ascends)

pub moved-requires-clause-inside : goal.moved-requires-clause-inside
moved-requires-clause-inside c =
    rw (c.deref.ensures.value, c.deref_mut.ensures.value ∙ c.shrink_to_fit.ensures.items ∙ c.drop_gone.ensures)
    (All-filter waits (IsInside c.args.names.now.items) c.args.slots.now.items c.requires.inside)

pub moved-requires-clause-few : goal.moved-requires-clause-few
moved-requires-clause-few c =
    rw (c.deref_mut.ensures.value ∙ c.shrink_to_fit.ensures.items ∙ c.drop_gone.ensures) (kept_few c.args.slots.now.items c.requires.few)

pub returns-clause-same : goal.returns-clause-same
returns-clause-same c =
    let slots = c.args.slots.now.items in
    let names = c.args.names.now.items in
    ap (listed c.in_ok-names.field-0.items) (take_at c.moved.new.slots _ _ (c.moved.auto.slots ∙ c.deref_mut.ensures.len))
    ∙ c.in_ok-names.ensures.same ∙ (λ i. listed (c.deref.ensures.value i) ((c.deref_mut.ensures.value ∙ c.shrink_to_fit.ensures.items ∙ c.drop_gone.ensures) i))
    ∙ listed_filter names slots
