use Rattle.std.proofs.Common.{ℕ, List}
use Rattle.btr_check_names.specs.declared.link_list.LinkRow.{LinkRow}
use Rattle.btr_check_names.specs.Entry.{NameRef}
use Rattle.btr_check_names.proofs.Packing.{rows_more}
use Rattle.btr_check_names.proofs.link_list.push_row.Goals as goal

abbrev with_name : LinkRow → List ℕ → NameRef
with_name row name = record { inode = row.inode; parent = row.parent; index = row.index; name = name }

pub returns-in-Ok-clause-ok : goal.returns-in-Ok-clause-ok
returns-in-Ok-clause-ok c =
    let put : LinkRow = record {
      inode = c.args.link.now.inode;
      parent = c.args.link.now.parent;
      index = c.args.link.now.index;
      name = c.in_ok-push_name.field-0;
    } in
    rows_more (λ (row : LinkRow). row.name) with_name c.args.names.now.items c.push_name.new.names.items c.args.link.now.name.now
    c.args.rows.now.items c.push.new.self.items put
    c.requires c.in_ok-push_name.ensures.ok c.in-Ok.ensures.items c.in_ok-push_name.ensures.at c.in_ok-push_name.ensures.len
