use Rattle.std.proofs.Common.{ap, ◌∙◌, fold, IfOk, Result}
use Rattle.std.proofs.lemmas.List.Elements.{All-rest}
use Rattle.btr_items.specs.InodeRef.{inode_refs_of}
use Rattle.btr_items.specs.Form.{HasName}
use Rattle.btr_items.specs.declared.inode_ref.InodeRef.{InodeRef}
use Rattle.btr_items.specs.declared.fault.ItemFault.{ItemFault}
use Rattle.btr_check_names.specs.Items.{ref_with, refs_read}
use Rattle.btr_check_names.specs.Unpaired.{with_ref}
use Rattle.btr_check_names.proofs.Reading.{step_more, step_left_out}
use Rattle.btr_check_names.proofs.unpaired.Unpaired.put_inode_refs.Goals as goal

pub loop-part-preserved-in-Continue-1 : goal.loop-part-preserved-in-Continue-1
loop-part-preserved-in-Continue-1 c =
    let body = c.args.body.now in
    record {
      taken = step_more (ref_with c.args.key body) with_ref c.loop-part.self c.put_ref.new.self
          (fold with_ref c.args.self.now (refs_read c.args.key body (inode_refs_of body))) c.loop-part.part-iterator c.next.new.self c.in-Some.part
          c.in-Ok.part c.in-Some.ensures.steps c.in-Ok.is
          (c.in_ok-put_ref-in-Ok.ensures ∙ ap (with_ref c.loop-part.self) c.ref_in.ensures) c.loop-part.invariant.taken;
      names = All-rest (λ (read : Result InodeRef ItemFault). IfOk read (λ (part : InodeRef). HasName body part.name_at part.name_len)) c.in-Some.part
          c.next.new.self c.loop-part.part-iterator c.in-Some.ensures.steps c.loop-part.invariant.names;
    }

pub loop-part-preserved : goal.loop-part-preserved
loop-part-preserved c =
    let body = c.args.body.now in
    record {
      taken = step_left_out (ref_with c.args.key body) with_ref c.loop-part.self
          (fold with_ref c.args.self.now (refs_read c.args.key body (inode_refs_of body))) c.loop-part.part-iterator c.next.new.self c.in-Some.part
          c.in-Err.field-0 c.in-Some.ensures.steps c.in-Err.is c.loop-part.invariant.taken;
      names = All-rest (λ (read : Result InodeRef ItemFault). IfOk read (λ (part : InodeRef). HasName body part.name_at part.name_len)) c.in-Some.part
          c.next.new.self c.loop-part.part-iterator c.in-Some.ensures.steps c.loop-part.invariant.names;
    }
