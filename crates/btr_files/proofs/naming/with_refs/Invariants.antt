use Rattle.std.proofs.Common.{◌≡◌, All, IfOk}
use Rattle.btr_items.specs.Form.{HasName}
use Rattle.btr_files.specs.Names.{inode_link}
use Rattle.btr_files.specs.Steps.{link_in, parts_met}
use Rattle.btr_files.proofs.naming.with_refs.Given as goal

abbrev pub invariant-loop-part : goal.invariant-loop-part
invariant-loop-part l = record {
  next : (goal.iterator-loop-part).can_next l.parts;
  finite : (goal.iterator-loop-part).is_finite l.parts;
  names : All (λ read. IfOk read (λ found. HasName l.body found.name_at found.name_len)) l.parts;
  same : parts_met (link_in l.wanted) (inode_link l.parent l.body) l.met l.parts
      ≡ parts_met (link_in l.wanted) (inode_link l.parent l.body) l.initial.met l.initial.parts;
}
