use Rattle.std.proofs.Common.{Some, sym, ap, ◌∙◌}
use Rattle.btr_node.specs.declared.node.Node.TheVariants.{Leaf, Inner}
use Rattle.btr_node.proofs.Leaves.{leaf_level}
use Rattle.btr_node.proofs.Nodes.{good_leaf, good_inner, leaf_is, inner_is}
use Rattle.btr_node.proofs.node.Node.of.Goals as goal

pub of-requires-clause-good : goal.of-requires-clause-good
of-requires-clause-good c = good_leaf c.args.block.now c.requires.good (sym c.level.ensures ∙ c.if-level-eq0.true)

pub of-requires-else-level-eq0-clause-good : goal.of-requires-else-level-eq0-clause-good
of-requires-else-level-eq0-clause-good c = good_inner c.args.block.now c.requires.good (λ e. c.if-level-eq0.false (c.level.ensures ∙ e))

pub returns-then-level-eq0-clause-answer : goal.returns-then-level-eq0-clause-answer
returns-then-level-eq0-clause-answer c = leaf_is c.args.block.now
    (good_leaf c.args.block.now c.requires.good (sym c.level.ensures ∙ c.if-level-eq0.true)) ∙ ap (λ list. Some (Leaf list)) (sym c.of.ensures)

pub returns-then-level-eq0-clause-good : goal.returns-then-level-eq0-clause-good
returns-then-level-eq0-clause-good c = (good_leaf c.args.block.now c.requires.good (sym c.level.ensures ∙ c.if-level-eq0.true), c.of.ensures)

pub returns-else-level-eq0-clause-answer : goal.returns-else-level-eq0-clause-answer
returns-else-level-eq0-clause-answer c = inner_is c.args.block.now (leaf_level c.args.block.now (λ e. c.if-level-eq0.false (c.level.ensures ∙ e)))
    (good_inner c.args.block.now c.requires.good (λ e. c.if-level-eq0.false (c.level.ensures ∙ e)))
    ∙ ap (λ list. Some (Inner list)) (sym c.of-else-level-eq0.ensures)

pub returns-else-level-eq0-clause-good : goal.returns-else-level-eq0-clause-good
returns-else-level-eq0-clause-good c = (
  good_inner c.args.block.now c.requires.good (λ e. c.if-level-eq0.false (c.level.ensures ∙ e)),
  c.of-else-level-eq0.ensures,
)
