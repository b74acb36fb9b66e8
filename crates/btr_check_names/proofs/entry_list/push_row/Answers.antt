use Rattle.btr_check_names.specs.declared.entry_list.EntryRow.{EntryRow}
use Rattle.btr_check_names.specs.Entry.{Entry, location_of}
use Rattle.btr_check_names.proofs.Packing.{rows_more}
use Rattle.btr_check_names.proofs.entry_list.push_row.Goals as goal
use Rattle.std.proofs.Common.{ℕ, List}

abbrev with_name : EntryRow → List ℕ → Entry
with_name row name = record { dir = row.dir; offset = row.offset; location = location_of row.target; kind = row.kind; name = name }

pub returns-in-Ok-clause-ok : goal.returns-in-Ok-clause-ok
returns-in-Ok-clause-ok c =
    let put : EntryRow = record {
      dir = c.args.entry.now.dir;
      offset = c.args.entry.now.offset;
      target = c.args.entry.now.target;
      kind = c.args.entry.now.kind;
      name = c.in_ok-push_name.field-0;
    } in
    rows_more (λ (row : EntryRow). row.name) with_name c.args.names.now.items c.push_name.new.names.items c.args.entry.now.name.now
    c.args.rows.now.items c.push.new.self.items put
    c.requires c.in_ok-push_name.ensures.ok c.in-Ok.ensures.items c.in_ok-push_name.ensures.at c.in_ok-push_name.ensures.len
