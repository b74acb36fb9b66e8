use Rattle.std.proofs.Common.{ap, ◌∙◌, IfOk}
use Rattle.btr_items.specs.Form.{HasName}
use Rattle.btr_files.specs.Names.{ext_link, link, same_link}
use Rattle.btr_files.specs.Steps.{link_in, met_more}
use Rattle.btr_files.proofs.Meeting.{part_more, all_rest}
use Rattle.btr_files.proofs.naming.with_ext_refs.Goals as goal

pub loop-part-preserved : goal.loop-part-preserved
loop-part-preserved c =
    let wanted = link_in c.args.wanted.now in
    let seen = c.loop-part.met in
    let named = ap (λ name. met_more seen (same_link (link c.in-Ok.part.parent c.in-Ok.part.index name) wanted)) c.name.ensures in
    record {
      next = tt;
      finite = tt;
      names = all_rest wanted (λ read. IfOk read (λ found. HasName c.args.body.now found.name_at found.name_len)) c.loop-part.parts c.next.new.self
          c.in-Some.part c.in-Some.ensures.steps c.loop-part.invariant.names;
      same = part_more wanted (ext_link c.args.body.now) seen c.with-met.result c.loop-part.parts c.next.new.self c.in-Some.part c.in-Ok.part
          c.in-Some.ensures.steps c.in-Ok.is (c.with-met.ensures ∙ ap (met_more seen) c.is.ensures ∙ named) ∙ c.loop-part.invariant.same;
    }
