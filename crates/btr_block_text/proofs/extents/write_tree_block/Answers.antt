use Rattle.std.proofs.Common.{◌≡◌, ◌∙◌, sym}
use Rattle.btr_text.proofs.Writing.{writes_as}
use Rattle.btr_block_text.specs.Extents.{block_line, tree_block_line}
use Rattle.btr_block_text.proofs.extents.write_tree_block.Goals as goal

pub returns-clause-text : goal.returns-clause-text
returns-clause-text g c =
    let w = c.in-Some-Some in
    let is : block_line w.key w.level ≡ tree_block_line c.args.key c.args.level = λ i. tree_block_line (sym w.is-0 i) (sym w.is-1 i) in
    writes_as _ _ _ _ _ (tree_block_line c.args.key c.args.level) c.push_all.result (c.block_line.ensures ∙ is) c.push_all.ensures.text
