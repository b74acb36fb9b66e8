use Rattle.std.proofs.Common.{ap, ◌∙◌, fold, IfOk, Result}
use Rattle.std.proofs.lemmas.List.Elements.{All-rest}
use Rattle.btr_items.specs.ExtRef.{ext_refs_of}
use Rattle.btr_items.specs.Form.{HasName}
use Rattle.btr_items.specs.declared.ext_ref.ExtRef.{ExtRef}
use Rattle.btr_items.specs.declared.fault.ItemFault.{ItemFault}
use Rattle.btr_check_names.specs.Items.{ext_ref_with, ext_refs_read}
use Rattle.btr_check_names.specs.Unpaired.{with_ref}
use Rattle.btr_check_names.proofs.Reading.{step_more, step_left_out}
use Rattle.btr_check_names.proofs.unpaired.Unpaired.put_ext_refs.Goals as goal

pub loop-part-preserved-in-Continue-1 : goal.loop-part-preserved-in-Continue-1
loop-part-preserved-in-Continue-1 c =
    let body = c.args.body.now in
    record {
      taken = step_more (ext_ref_with c.args.key body) with_ref c.loop-part.self c.put_ref.new.self
          (fold with_ref c.args.self.now (ext_refs_read c.args.key body (ext_refs_of body))) c.loop-part.part-iterator c.next.new.self c.in-Some.part
          c.in-Ok.part c.in-Some.ensures.steps c.in-Ok.is
          (c.in_ok-put_ref-in-Ok.ensures ∙ ap (with_ref c.loop-part.self) c.ext_ref_in.ensures) c.loop-part.invariant.taken;
      names = All-rest (λ (read : Result ExtRef ItemFault). IfOk read (λ (part : ExtRef). HasName body part.name_at part.name_len)) c.in-Some.part
          c.next.new.self c.loop-part.part-iterator c.in-Some.ensures.steps c.loop-part.invariant.names;
    }

pub loop-part-preserved : goal.loop-part-preserved
loop-part-preserved c =
    let body = c.args.body.now in
    record {
      taken = step_left_out (ext_ref_with c.args.key body) with_ref c.loop-part.self
          (fold with_ref c.args.self.now (ext_refs_read c.args.key body (ext_refs_of body))) c.loop-part.part-iterator c.next.new.self c.in-Some.part
          c.in-Err.field-0 c.in-Some.ensures.steps c.in-Err.is c.loop-part.invariant.taken;
      names = All-rest (λ (read : Result ExtRef ItemFault). IfOk read (λ (part : ExtRef). HasName body part.name_at part.name_len)) c.in-Some.part
          c.next.new.self c.loop-part.part-iterator c.in-Some.ensures.steps c.loop-part.invariant.names;
    }
