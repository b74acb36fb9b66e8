use Rattle.std.proofs.Common.{sym, ◌∙◌, arith}
use Rattle.btr_node.proofs.Inners.{inner_leaf, inner_level, inner_empty, inner_room, inner_rules}
use Rattle.btr_node.proofs.inner.is_inner.Goals as goal
use Rattle.btr_node.proofs.inner.is_inner.Goals.{then-block-eq0-via-then-block-eq0, then-block-eq0-via-else-block-eq0+then-block-gt-MAX_LEVEL}
use Rattle.btr_node.proofs.inner.is_inner.Goals.{then-count-eq0-via-then-count-eq0, then-count-eq0-via-else-count-eq0+then-count-block}

pub returns-then-block-eq0 : goal.returns-then-block-eq0
returns-then-block-eq0 c =
    let block = c.args.block.now in
    sym (elim c.then-block-eq0.branch [
      | then-block-eq0-via-then-block-eq0 w ↦ inner_leaf block w.if-block-eq0.true
      | then-block-eq0-via-else-block-eq0+then-block-gt-MAX_LEVEL w ↦ inner_level block w.if-block-gt-MAX_LEVEL.true
    ])

pub returns-then-count-eq0 : goal.returns-then-count-eq0
returns-then-count-eq0 c =
    let block = c.args.block.now in
    sym (elim c.then-count-eq0.branch [
      | then-count-eq0-via-then-count-eq0 w ↦ inner_empty block (omega (arith, w.if-count-eq0.true))
      | then-count-eq0-via-else-count-eq0+then-count-block w ↦ inner_room block (omega (arith, w.if-count-block.true))
    ])

pub returns : goal.returns
returns c =
    c.keys_ascend.ensures
    ∙ sym (inner_rules c.args.block.now c.entry_count-count.result c.entry_count-count.ensures.count (omega arith) c.if-block-gt-MAX_LEVEL.false
    (omega arith) (omega arith))
