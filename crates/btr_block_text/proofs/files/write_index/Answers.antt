use Rattle.btr_items.specs.Entry.{index_entry_of}
use Rattle.btr_text.proofs.Writing.{writes_as}
use Rattle.btr_block_text.specs.Files.{entry_line}
use Rattle.btr_block_text.proofs.Lines.{writes_read}
use Rattle.btr_block_text.proofs.files.write_index.Goals as goal

pub returns-in-Ok-clause-text : goal.returns-in-Ok-clause-text
returns-in-Ok-clause-text g c =
    let line = entry_line c.args.body.now in
    writes_read line _ _ _ _ c.push_all.result (index_entry_of c.args.body.now) c.in-Ok.entry c.in-Ok.ensures.form
    (writes_as _ _ _ _ _ (line c.in-Ok.entry) c.push_all.result c.entry_line.ensures c.push_all.ensures.text)
