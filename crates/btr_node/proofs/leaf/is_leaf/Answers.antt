use Rattle.std.proofs.Common.{◌&&◌, map, sym, ◌∙◌, ap, arith}
use Rattle.std.specs.List.{range_with_len}
use Rattle.std.proofs.lemmas.Bool.{and_left}
use Rattle.btr_node.specs.Block.{entry_key, ascends}
use Rattle.btr_node.proofs.Leaves.{leaf_level, leaf_room, leaf_rules}
use Rattle.btr_node.proofs.leaf.is_leaf.Goals as goal
use Rattle.btr_node.proofs.leaf.is_leaf.Goals.{then-block-ne0-via-then-block-ne0, then-block-ne0-via-else-block-ne0+then-count-block}

pub returns-then-block-ne0 : goal.returns-then-block-ne0
returns-then-block-ne0 c =
    let block = c.args.block.now in
    sym (elim c.then-block-ne0.branch [
      | then-block-ne0-via-then-block-ne0 w ↦ leaf_level block w.if-block-ne0.true
      | then-block-ne0-via-else-block-ne0+then-count-block w ↦ leaf_room block (omega (arith, w.if-count-block.true))
    ])

pub returns-then-is_packed : goal.returns-then-is_packed
returns-then-is_packed c =
    let block = c.args.block.now in
    let n = c.entry_count-count.result in
    c.keys_ascend.ensures
    ∙ sym (leaf_rules block n c.entry_count-count.ensures.count c.if-block-ne0.false
    ∙ ap (λ packed. packed && ascends (map (entry_key 25 block) (range_with_len 0 n))) (sym c.is_packed.ensures ∙ c.if-is_packed.true))

pub returns-else-is_packed : goal.returns-else-is_packed
returns-else-is_packed c =
    let block = c.args.block.now in
    c.if-is_packed.false
    ∙ sym (leaf_rules block c.entry_count-count.result c.entry_count-count.ensures.count c.if-block-ne0.false
    ∙ and_left _ _ (sym c.is_packed.ensures ∙ c.if-is_packed.false))
