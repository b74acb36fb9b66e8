use Rattle.std.proofs.Common.{ℕ, List}
use Rattle.btr_check_names.specs.declared.subvolume_list.SubvolumeRow.{SubvolumeRow}
use Rattle.btr_check_names.specs.Subvolume.{NamedSubvolume}
use Rattle.btr_check_names.proofs.Packing.{rows_more}
use Rattle.btr_check_names.proofs.subvolume_list.push_row.Goals as goal

abbrev with_name : SubvolumeRow → List ℕ → NamedSubvolume
with_name row name = record { parent = row.parent; dirid = row.dirid; index = row.index; child = row.child; name = name }

pub returns-in-Ok-clause-ok : goal.returns-in-Ok-clause-ok
returns-in-Ok-clause-ok c =
    let put : SubvolumeRow = record {
      parent = c.args.name.now.parent;
      dirid = c.args.name.now.dirid;
      index = c.args.name.now.index;
      child = c.args.name.now.child;
      name = c.in_ok-push_name.field-0;
    } in
    rows_more (λ (row : SubvolumeRow). row.name) with_name c.args.names.now.items c.push_name.new.names.items c.args.name.now.name.now
    c.args.rows.now.items c.push.new.self.items put
    c.requires c.in_ok-push_name.ensures.ok c.in-Ok.ensures.items c.in_ok-push_name.ensures.at c.in_ok-push_name.ensures.len
