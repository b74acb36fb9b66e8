use Rattle.std.proofs.lemmas.List.Elements.{All-rest}
use Rattle.btr_check_names.specs.Packed.{HasNameAt}
use Rattle.btr_check_names.specs.declared.link_list.LinkRow.{LinkRow}
use Rattle.btr_check_names.proofs.link_list.LinkIterIterator.next.Goals as goal

pub invariant_of-self : goal.invariant_of-self
invariant_of-self c = All-rest (λ (row : LinkRow). HasNameAt c.self.inside.names.now row.name) c.in_ok-row.row.now c.in_ok-row.rows.now
    c.self.inside.rows.now c.in_ok-row.ensures.cases.0 c.self.invariant
