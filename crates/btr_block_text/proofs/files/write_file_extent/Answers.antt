use Rattle.btr_items.specs.FileExtent.{file_extent_of}
use Rattle.btr_block_text.specs.Files.{file_extent_line}
use Rattle.btr_block_text.proofs.Lines.{writes_read}
use Rattle.btr_block_text.proofs.files.write_file_extent.Goals as goal

pub returns-in-Ok-clause-text : goal.returns-in-Ok-clause-text
returns-in-Ok-clause-text g c =
    writes_read file_extent_line _ _ _ _ c.write_range.result (file_extent_of c.args.offset c.args.body.now) c.in-Ok.extent c.in-Ok.ensures.form
    c.write_range.ensures.text
