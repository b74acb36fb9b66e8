use Rattle.std.proofs.Common.{rules}
use Rattle.std.proofs.lemmas.List.Elements.{filter_from_retain}
use Rattle.btr_check_names.specs.Slots.{waits}
use Rattle.btr_check_names.proofs.ascending.drop_gone.Goals as goal

pub returns : goal.returns
returns c = filter_from_retain _ waits (λ p x b q called. search rules) _ _ _ c.retain.ensures.filtered
