use Rattle.std.proofs.Common.{IfOk, Result}
use Rattle.std.proofs.lemmas.List.Elements.{All-rest}
use Rattle.btr_items.specs.ExtRef.{ext_refs_of}
use Rattle.btr_items.specs.Form.{HasName}
use Rattle.btr_items.specs.declared.ext_ref.ExtRef.{ExtRef}
use Rattle.btr_items.specs.declared.fault.ItemFault.{ItemFault}
use Rattle.btr_check_names.specs.Items.{ext_ref_with, ext_refs_read}
use Rattle.btr_check_names.proofs.Reading.{part_more, part_left_out}
use Rattle.btr_check_names.proofs.taking.take_ext_refs.Goals as goal
use Rattle.std.proofs.Common.{◌++◌}

pub loop-part-preserved-in-Continue-1 : goal.loop-part-preserved-in-Continue-1
loop-part-preserved-in-Continue-1 c =
    let body = c.args.body.now in
    record {
      kept = part_more (ext_ref_with c.args.key body) c.loop-part.list c.push_ext_ref.new.list
          (c.args.list.now ++ ext_refs_read c.args.key body (ext_refs_of body)) c.loop-part.part-iterator c.next.new.self c.in-Some.part c.in-Ok.part
          c.in-Some.ensures.steps c.in-Ok.is c.in_ok-push_ext_ref-in-Ok.ensures c.loop-part.invariant.kept;
      names = All-rest (λ (read : Result ExtRef ItemFault). IfOk read (λ (part : ExtRef). HasName body part.name_at part.name_len)) c.in-Some.part
          c.next.new.self c.loop-part.part-iterator c.in-Some.ensures.steps c.loop-part.invariant.names;
    }

pub loop-part-preserved : goal.loop-part-preserved
loop-part-preserved c =
    let body = c.args.body.now in
    record {
      kept = part_left_out (ext_ref_with c.args.key body) c.loop-part.list (c.args.list.now ++ ext_refs_read c.args.key body (ext_refs_of body))
          c.loop-part.part-iterator c.next.new.self c.in-Some.part c.in-Err.field-0 c.in-Some.ensures.steps c.in-Err.is c.loop-part.invariant.kept;
      names = All-rest (λ (read : Result ExtRef ItemFault). IfOk read (λ (part : ExtRef). HasName body part.name_at part.name_len)) c.in-Some.part
          c.next.new.self c.loop-part.part-iterator c.in-Some.ensures.steps c.loop-part.invariant.names;
    }
