use Rattle.btr_check.proofs.Lists.{last_taken, last_kept}
use Rattle.btr_check.proofs.refusing.last_of.Goals as goal
use Rattle.btr_check.proofs.refusing.last_of.Goals.{then-tree-id, else-tree-id}

pub loop-tree-preserved : goal.loop-tree-preserved
loop-tree-preserved c =
    elim c.if-tree-id.branch [
      | then-tree-id w ↦ last_taken c.args.id c.args.trees.now c.loop-tree.tree-index _ c.if-tree-id.last c.loop-tree-test.true w.if-tree-id.true w.last-is
      | else-tree-id w ↦ last_kept c.args.id c.args.trees.now c.loop-tree.tree-index _ c.if-tree-id.last c.loop-tree.last c.loop-tree-test.true
          w.if-tree-id.false w.last-is c.loop-tree.invariant
    ]
