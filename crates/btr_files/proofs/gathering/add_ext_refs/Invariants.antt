use Rattle.std.proofs.Common.{◌≡◌, All, IfOk}
use Rattle.btr_items.specs.Form.{HasName}
use Rattle.btr_files.specs.Gathering.{parts_linked}
use Rattle.btr_files.specs.Names.{ext_link}
use Rattle.btr_files.proofs.gathering.add_ext_refs.Given as goal

abbrev pub invariant-loop-part : goal.invariant-loop-part
invariant-loop-part l = record {
  next : (goal.iterator-loop-part).can_next l.parts;
  finite : (goal.iterator-loop-part).is_finite l.parts;
  names : All (λ read. IfOk read (λ found. HasName l.body found.name_at found.name_len)) l.parts;
  same : parts_linked (ext_link l.body) l.list l.parts ≡ parts_linked (ext_link l.body) l.initial.list l.initial.parts;
}
