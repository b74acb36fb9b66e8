use Rattle.std.proofs.Common.{Ok}
use Rattle.btr_items.specs.RootItem.{root_item_of}
use Rattle.btr_text.proofs.Writing.{writes_as, wrote_nothing}
use Rattle.btr_block_text.specs.Trees.{root_line}
use Rattle.btr_block_text.proofs.Lines.{writes_read, writes_fault}
use Rattle.btr_block_text.proofs.trees.write_root.Goals as goal

pub returns-in-Ok-clause-text : goal.returns-in-Ok-clause-text
returns-in-Ok-clause-text g c =
    writes_read root_line _ _ _ _ c.push_all.result (root_item_of c.args.body.now) c.in-Ok.root c.in-Ok.ensures
    (writes_as _ _ _ _ _ (root_line c.in-Ok.root) c.push_all.result c.root_line.ensures c.push_all.ensures.text)

pub returns-in-Err-clause-text : goal.returns-in-Err-clause-text
returns-in-Err-clause-text g c =
    writes_fault root_line _ _ _ _ (Ok (tt {0})) (root_item_of c.args.body.now) c.in-Err.field-0 c.in-Err.ensures
    (wrote_nothing (g.O.Out.text c.args.out.now) c.args.text.now)
