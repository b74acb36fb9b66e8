use Rattle.std.proofs.Common.{◌≡◌, ◌++◌, All, IfOk}
use Rattle.btr_items.specs.Form.{HasName}
use Rattle.btr_items.specs.ExtRef.{ext_refs_of}
use Rattle.btr_check_names.specs.Items.{ext_refs_read}
use Rattle.btr_check_names.proofs.taking.take_ext_refs.Given as goal

-- what was kept, and what is left to be read, are all
abbrev pub invariant-loop-part : goal.invariant-loop-part
invariant-loop-part l = record {
  kept : l.list ++ ext_refs_read l.key l.body l.part-iterator ≡ l.fn.list ++ ext_refs_read l.key l.body (ext_refs_of l.body);
  names : All (λ read. IfOk read (λ part. HasName l.body part.name_at part.name_len)) l.part-iterator;
}
