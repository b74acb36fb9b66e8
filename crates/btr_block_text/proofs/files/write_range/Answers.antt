use Rattle.btr_text.proofs.Writing.{cut_writes, writes_as}
use Rattle.btr_block_text.specs.Files.{shape_text, range_end}
use Rattle.btr_block_text.proofs.Lines.{cut_first, cut_second, writes_third}
use Rattle.btr_block_text.proofs.files.write_range.Goals as goal

pub returns-in_err-push_all-clause-text : goal.returns-in_err-push_all-clause-text
returns-in_err-push_all-clause-text g c =
    let extent = c.args.extent.now in
    cut_writes c.from_residual.result c.from_residual.ensures.0 (cut_first (shape_text extent.shape) (range_end extent) c.in_err-push_all.ensures.text)

pub returns-in_err-write_shape-clause-text : goal.returns-in_err-write_shape-clause-text
returns-in_err-write_shape-clause-text g c =
    let extent = c.args.extent.now in
    cut_writes c.from_residual-in_err-write_shape.result c.from_residual-in_err-write_shape.ensures.0
    (cut_second (range_end extent) c.in_ok-push_all.ensures.text c.in_err-write_shape.ensures.text)

pub returns-clause-text : goal.returns-clause-text
returns-clause-text g c =
    let extent = c.args.extent.now in
    writes_third _ _ (range_end extent) c.push_all-2.result c.in_ok-push_all.ensures.text c.in_ok-write_shape.ensures.text
    (writes_as _ _ _ _ _ (range_end extent) c.push_all-2.result c.range_end.ensures c.push_all-2.ensures.text)
