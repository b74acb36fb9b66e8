use Rattle.std.proofs.Common.{◌++◌, ◌∷◌, [], ap, ◌∙◌, IfOk}
use Rattle.btr_items.specs.Form.{HasName}
use Rattle.btr_files.specs.Names.{ext_link, link}
use Rattle.btr_files.proofs.Gathered.{part_linked, rest_holds}
use Rattle.btr_files.proofs.gathering.add_ext_refs.Goals as goal

pub loop-part-preserved : goal.loop-part-preserved
loop-part-preserved c =
    let of = ext_link c.args.body.now in
    let named = ap (λ name. c.loop-part.list ++ link c.in-Ok.part.parent c.in-Ok.part.index name ∷ []) c.name.ensures in
    record {
      next = tt;
      finite = tt;
      names = rest_holds (λ read. IfOk read (λ found. HasName c.args.body.now found.name_at found.name_len)) c.loop-part.parts
          c.next.new.self c.in-Some.part c.in-Some.ensures.steps c.loop-part.invariant.names;
      same = part_linked of c.loop-part.list c.push.new.self c.loop-part.parts c.next.new.self c.in-Some.part c.in-Ok.part
          c.in-Some.ensures.steps c.in-Ok.is (c.in_ok-push-in-Ok.ensures ∙ named) ∙ c.loop-part.invariant.same;
    }
