use Rattle.std.proofs.Common.{◌∙◌, sym, ap}
use Rattle.btr_text.proofs.Writing.{writes_as}
use Rattle.btr_block_text.specs.Files.{shape_text}
use Rattle.btr_block_text.proofs.files.write_shape.Goals as goal

pub returns-in-Inline-clause-text : goal.returns-in-Inline-clause-text
returns-in-Inline-clause-text g c = writes_as _ _ _ _ _ (shape_text c.args.shape) c.push_all.result (ap shape_text (sym c.in-Inline.is)) c.push_all.ensures.text

pub returns-in-Regular-clause-text : goal.returns-in-Regular-clause-text
returns-in-Regular-clause-text g c = writes_as _ _ _ _ _ (shape_text c.args.shape) c.push_all-in-Regular.result
    (c.disk_text.ensures ∙ ap shape_text (sym c.in-Regular.is)) c.push_all-in-Regular.ensures.text

pub returns-in-Prealloc-clause-text : goal.returns-in-Prealloc-clause-text
returns-in-Prealloc-clause-text g c =
    writes_as _ _ _ _ _ (shape_text c.args.shape) c.push_all-in-Prealloc.result
    (c.disk_text-in-Prealloc.ensures ∙ ap shape_text (sym c.in-Prealloc.is)) c.push_all-in-Prealloc.ensures.text
