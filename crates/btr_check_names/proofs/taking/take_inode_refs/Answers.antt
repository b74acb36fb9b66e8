use Rattle.std.proofs.Common.{IfOk, Result}
use Rattle.std.proofs.lemmas.List.Elements.{All-rest}
use Rattle.btr_items.specs.InodeRef.{inode_refs_of}
use Rattle.btr_items.specs.Form.{HasName}
use Rattle.btr_items.specs.declared.inode_ref.InodeRef.{InodeRef}
use Rattle.btr_items.specs.declared.fault.ItemFault.{ItemFault}
use Rattle.btr_check_names.specs.Items.{ref_with, refs_read}
use Rattle.btr_check_names.proofs.Reading.{part_more, part_left_out}
use Rattle.btr_check_names.proofs.taking.take_inode_refs.Goals as goal
use Rattle.std.proofs.Common.{◌++◌}

pub loop-part-preserved-in-Continue-1 : goal.loop-part-preserved-in-Continue-1
loop-part-preserved-in-Continue-1 c =
    let body = c.args.body.now in
    record {
      kept = part_more (ref_with c.args.key body) c.loop-part.list c.push_ref.new.list
          (c.args.list.now ++ refs_read c.args.key body (inode_refs_of body)) c.loop-part.part-iterator c.next.new.self c.in-Some.part c.in-Ok.part
          c.in-Some.ensures.steps c.in-Ok.is c.in_ok-push_ref-in-Ok.ensures c.loop-part.invariant.kept;
      names = All-rest (λ (read : Result InodeRef ItemFault). IfOk read (λ (part : InodeRef). HasName body part.name_at part.name_len)) c.in-Some.part
          c.next.new.self c.loop-part.part-iterator c.in-Some.ensures.steps c.loop-part.invariant.names;
    }

pub loop-part-preserved : goal.loop-part-preserved
loop-part-preserved c =
    let body = c.args.body.now in
    record {
      kept = part_left_out (ref_with c.args.key body) c.loop-part.list (c.args.list.now ++ refs_read c.args.key body (inode_refs_of body))
          c.loop-part.part-iterator c.next.new.self c.in-Some.part c.in-Err.field-0 c.in-Some.ensures.steps c.in-Err.is c.loop-part.invariant.kept;
      names = All-rest (λ (read : Result InodeRef ItemFault). IfOk read (λ (part : InodeRef). HasName body part.name_at part.name_len)) c.in-Some.part
          c.next.new.self c.loop-part.part-iterator c.in-Some.ensures.steps c.loop-part.invariant.names;
    }
