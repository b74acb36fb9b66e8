use Rattle.btr_text.proofs.Writing.{wrote_as, cut_as, cut_longer, cut_writes, writes_then}
use Rattle.btr_node.specs.LeafItem.{item_of}
use Rattle.btr_block_text.specs.Items.{item_line, body_lines, item_text}
use Rattle.btr_block_text.proofs.items.write_item.Goals as goal

pub returns-in_err-push_all-clause-text : goal.returns-in_err-push_all-clause-text
unfolding item_text
returns-in_err-push_all-clause-text g c =
    let item = item_of c.args.item.now in
    cut_writes c.from_residual.result c.from_residual.ensures.0
    (cut_longer (body_lines c.args.sums item.key item.body) (cut_as (item_line c.args.i item) c.item_line.ensures c.in_err-push_all.ensures.text))

pub returns-clause-text : goal.returns-clause-text
unfolding item_text
returns-clause-text g c =
    let item = item_of c.args.item.now in
    writes_then _ _ (body_lines c.args.sums item.key item.body) c.write_body.result
    (wrote_as (item_line c.args.i item) c.item_line.ensures c.in_ok-push_all.ensures.text) c.write_body.ensures.text
