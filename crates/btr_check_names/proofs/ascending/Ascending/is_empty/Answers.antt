use Rattle.std.proofs.Common.{not, ap, sym, ◌∙◌, ◌==◌}
use Rattle.std.specs.FinMap.{len}
use Rattle.std.specs.List.{list_any}
use Rattle.btr_check_names.specs.Slots.{waits}
use Rattle.btr_check_names.proofs.Slotted.{nothing_waits}
use Rattle.btr_check_names.proofs.ascending.Ascending.is_empty.Goals as goal

pub returns : goal.returns
returns c =
    ap not (c.any_waits.ensures ∙ ap (list_any waits) c.deref.ensures.value)
    ∙ sym (nothing_waits c.self.inside.names.items c.self.inside.slots.items) ∙ ap (λ m. len m == 0) c.self.view_is
