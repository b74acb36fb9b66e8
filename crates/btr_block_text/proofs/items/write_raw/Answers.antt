use Rattle.std.proofs.Common.{◌∙◌, sym}
use Rattle.btr_text.proofs.Writing.{writes_as}
use Rattle.btr_block_text.specs.Items.{raw_line}
use Rattle.btr_block_text.proofs.Lines.{raw_some}
use Rattle.btr_block_text.proofs.items.write_raw.Goals as goal

pub returns-clause-text : goal.returns-clause-text
returns-clause-text g c = writes_as _ _ _ _ _ (raw_line c.args.body.now) c.push_all.result
    (raw_some c.args.body.now (sym c.is_empty.ensures ∙ c.if-is_empty.false)) c.push_all.ensures.text
