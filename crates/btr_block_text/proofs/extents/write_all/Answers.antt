use Rattle.std.specs.List.{flat_map}
use Rattle.btr_items.specs.ExtentItem.{block_key}
use Rattle.btr_items.specs.InlineRef.{inline_refs_of}
use Rattle.btr_text.proofs.Writing.{wrote_as, cut_as, cut_writes, writes_as}
use Rattle.std.proofs.Common.{ap}
use Rattle.btr_block_text.specs.Extents.{extent_line, tree_block_line, inline_ref_line}
use Rattle.btr_block_text.specs.Read.{of_read}
use Rattle.btr_block_text.proofs.Lines.{cut_first, cut_second, writes_third, all_stand}
use Rattle.btr_block_text.proofs.extents.write_all.Goals as goal

pub write_parts-requires : goal.write_parts-requires
write_parts-requires g c = all_stand c.inline_refs.result

pub returns-in_err-push_all-clause-text : goal.returns-in_err-push_all-clause-text
returns-in_err-push_all-clause-text g c =
    let body = c.args.body.now in
    let extent = c.args.extent.now in
    let refs = flat_map (of_read (inline_ref_line body)) (inline_refs_of extent.first body) in
    cut_writes c.from_residual.result c.from_residual.ensures.0
    (cut_first (tree_block_line (block_key extent.first body) extent.level) refs
    (cut_as (extent_line extent) c.extent_line.ensures c.in_err-push_all.ensures.text))

pub returns-in_err-write_tree_block-clause-text : goal.returns-in_err-write_tree_block-clause-text
returns-in_err-write_tree_block-clause-text g c =
    let body = c.args.body.now in
    let extent = c.args.extent.now in
    let refs = flat_map (of_read (inline_ref_line body)) (inline_refs_of extent.first body) in
    cut_writes c.from_residual-in_err-write_tree_block.result c.from_residual-in_err-write_tree_block.ensures.0
    (cut_second refs (wrote_as (extent_line extent) c.extent_line.ensures c.in_ok-push_all.ensures.text)
    (cut_as (tree_block_line (block_key extent.first body) extent.level) (ap (λ key. tree_block_line key extent.level) c.block_key.ensures)
    c.in_err-write_tree_block.ensures.text))

pub returns-clause-text : goal.returns-clause-text
returns-clause-text g c =
    let body = c.args.body.now in
    let extent = c.args.extent.now in
    let refs = flat_map (of_read (inline_ref_line body)) (inline_refs_of extent.first body) in
    writes_third _ _ refs c.write_parts.result (wrote_as (extent_line extent) c.extent_line.ensures c.in_ok-push_all.ensures.text)
    (wrote_as (tree_block_line (block_key extent.first body) extent.level) (ap (λ key. tree_block_line key extent.level) c.block_key.ensures)
    c.in_ok-write_tree_block.ensures.text)
    (writes_as _ _ _ _ _ refs c.write_parts.result (ap (flat_map (of_read (inline_ref_line body))) c.inline_refs.ensures) c.write_parts.ensures.text)
