use Rattle.std.proofs.Common.{◌≡◌, ◌∙◌, ap, sym, cond, eqb, true, false, arith}
use Rattle.std.proofs.lemmas.Bool.Decides.{nat_tests}
use Rattle.btr_node.specs.Block.{level_of}
use Rattle.btr_text.proofs.Writing.{writes_as}
use Rattle.btr_block_text.specs.Block.{leaf_text, node_text, block_text}
use Rattle.btr_block_text.proofs.Lines.{is_leaf_at, is_inner_at}
use Rattle.btr_block_text.proofs.block.write_block.Goals as goal

pub write_leaf-requires-clause-good : goal.write_leaf-requires-clause-good
write_leaf-requires-clause-good g c = is_leaf_at c.args.block.now c.requires.good (sym c.level.ensures ∙ c.if-level-eq0.true)

pub write_inner-requires-clause-good : goal.write_inner-requires-clause-good
write_inner-requires-clause-good g c = is_inner_at c.args.block.now c.requires.good (λ is. c.if-level-eq0.false (c.level.ensures ∙ is))

pub returns-then-level-eq0-clause-text : goal.returns-then-level-eq0-clause-text
unfolding block_text
returns-then-level-eq0-clause-text g c =
    let block = c.args.block.now in
    let zero : eqb (level_of block) 0 ≡ true = grind (arith, nat_tests) in
    let is : leaf_text c.args.sums c.args.addr block ≡ cond (eqb (level_of block) 0) (leaf_text c.args.sums c.args.addr block)
    (node_text c.args.sums c.args.addr block) =
    ap (λ b. cond b (leaf_text c.args.sums c.args.addr block) (node_text c.args.sums c.args.addr block)) (sym zero) in
    writes_as _ _ _ _ _ (block_text c.args.sums c.args.addr block) c.write_leaf.result is c.write_leaf.ensures.text

pub returns-else-level-eq0-clause-text : goal.returns-else-level-eq0-clause-text
unfolding block_text
returns-else-level-eq0-clause-text g c =
    let block = c.args.block.now in
    let other : eqb (level_of block) 0 ≡ false = grind (arith, nat_tests) in
    let is : node_text c.args.sums c.args.addr block ≡ cond (eqb (level_of block) 0) (leaf_text c.args.sums c.args.addr block)
    (node_text c.args.sums c.args.addr block) =
    ap (λ b. cond b (leaf_text c.args.sums c.args.addr block) (node_text c.args.sums c.args.addr block)) (sym other) in
    writes_as _ _ _ _ _ (block_text c.args.sums c.args.addr block) c.write_inner.result is c.write_inner.ensures.text
