use Rattle.std.proofs.lemmas.List.Elements.{All-rest}
use Rattle.btr_check_names.specs.Packed.{HasNameAt}
use Rattle.btr_check_names.specs.declared.subvolume_list.SubvolumeRow.{SubvolumeRow}
use Rattle.btr_check_names.proofs.subvolume_list.SubvolumeIterIterator.next.Goals as goal

pub invariant_of-self : goal.invariant_of-self
invariant_of-self c = All-rest (λ (row : SubvolumeRow). HasNameAt c.self.inside.names.now row.name) c.in_ok-row.row.now c.in_ok-row.rows.now
    c.self.inside.rows.now c.in_ok-row.ensures.cases.0 c.self.invariant
