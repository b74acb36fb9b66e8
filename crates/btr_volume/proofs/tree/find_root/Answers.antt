use Rattle.std.proofs.Common.{None, refl}
use Rattle.btr_volume.specs.Tree.{key, last, root_found}
use Rattle.btr_volume.proofs.Looked.{looks_found, judges_err, judges_none, judges_some}
use Rattle.btr_volume.proofs.tree.find_root.Goals.{in-Err, in-Ok-None, in-Ok-Some}
use Rattle.btr_volume.proofs.tree.find_root.Goals as goal

pub returns-clause-content : goal.returns-clause-content
returns-clause-content g c =
    let k = root_found c.args.id in
    let answer = c.match-find_le.answer in
    looks_found c.args.store.now.layout (g.R.Rack.seen c.args.rack.now) (g.R.Rack.seen c.find_le.new.rack) c.args.root.now (key c.args.id 132 last) k
    c.find_le.result answer c.find_le.ensures.content
    (elim c.match-find_le.branch [
      | in-Err w ↦ judges_err k answer c.find_le.result w.in-Err.fault w.in-Err.is w.answer-is
      | in-Ok-None w ↦ judges_none k answer c.find_le.result w.in-Ok-None.field-0 None w.in-Ok-None.is w.in-Ok-None.field-0-is refl w.answer-is
      | in-Ok-Some w ↦ judges_some k answer c.find_le.result w.in-Ok-Some.field-0 w.in-Ok-Some.found w.root_found-answer.result w.in-Ok-Some.is
          w.in-Ok-Some.field-0-is w.root_found-answer.ensures w.answer-is
    ])
