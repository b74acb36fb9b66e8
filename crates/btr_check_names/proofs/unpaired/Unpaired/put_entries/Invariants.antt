use Rattle.std.proofs.Common.{◌≡◌, fold, All, IfOk}
use Rattle.btr_items.specs.Form.{HasName}
use Rattle.btr_items.specs.Entry.{entries_of}
use Rattle.btr_check_names.specs.Items.{entries_read}
use Rattle.btr_check_names.specs.Unpaired.{with_hashed}
use Rattle.btr_check_names.proofs.unpaired.Unpaired.put_entries.Given as goal

-- what was taken, and what is left to be read, are all
abbrev pub invariant-loop-entry : goal.invariant-loop-entry
invariant-loop-entry l = record {
  taken : fold with_hashed l.self (entries_read l.key l.body l.entry-iterator) ≡ fold with_hashed l.fn.self (entries_read l.key l.body (entries_of l.body));
  names : All (λ read. IfOk read (λ part. HasName l.body part.name_at part.name_len)) l.entry-iterator;
}
