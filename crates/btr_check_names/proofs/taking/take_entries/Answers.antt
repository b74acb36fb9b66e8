use Rattle.std.proofs.Common.{IfOk, Result}
use Rattle.std.proofs.lemmas.List.Elements.{All-rest}
use Rattle.btr_items.specs.Entry.{entries_of}
use Rattle.btr_items.specs.Form.{HasName}
use Rattle.btr_items.specs.declared.entry.Entry.{Entry}
use Rattle.btr_items.specs.declared.fault.ItemFault.{ItemFault}
use Rattle.btr_check_names.specs.Items.{entry_with, entries_read}
use Rattle.btr_check_names.proofs.Reading.{part_more, part_left_out}
use Rattle.btr_check_names.proofs.taking.take_entries.Goals as goal
use Rattle.std.proofs.Common.{◌++◌}

pub loop-entry-preserved-in-Continue-1 : goal.loop-entry-preserved-in-Continue-1
loop-entry-preserved-in-Continue-1 c =
    let body = c.args.body.now in
    record {
      kept = part_more (entry_with c.args.key body) c.loop-entry.list c.push_entry.new.list
          (c.args.list.now ++ entries_read c.args.key body (entries_of body)) c.loop-entry.entry-iterator c.next.new.self c.in-Some.entry
          c.in-Ok.entry c.in-Some.ensures.steps c.in-Ok.is c.in_ok-push_entry-in-Ok.ensures c.loop-entry.invariant.kept;
      names = All-rest (λ (read : Result Entry ItemFault). IfOk read (λ (part : Entry). HasName body part.name_at part.name_len)) c.in-Some.entry
          c.next.new.self c.loop-entry.entry-iterator c.in-Some.ensures.steps c.loop-entry.invariant.names;
    }

pub loop-entry-preserved : goal.loop-entry-preserved
loop-entry-preserved c =
    let body = c.args.body.now in
    record {
      kept = part_left_out (entry_with c.args.key body) c.loop-entry.list (c.args.list.now ++ entries_read c.args.key body (entries_of body))
          c.loop-entry.entry-iterator c.next.new.self c.in-Some.entry c.in-Err.field-0 c.in-Some.ensures.steps c.in-Err.is c.loop-entry.invariant.kept;
      names = All-rest (λ (read : Result Entry ItemFault). IfOk read (λ (part : Entry). HasName body part.name_at part.name_len)) c.in-Some.entry
          c.next.new.self c.loop-entry.entry-iterator c.in-Some.ensures.steps c.loop-entry.invariant.names;
    }
