use Rattle.std.proofs.Common.{IfSome, sym, ap, ◌∙◌, subst}
use Rattle.btr_check.specs.Before.{pending, OfList}
use Rattle.btr_check.specs.Walking.{or_first}
use Rattle.btr_check.proofs.Lists.{first_of_more, first_holds}
use Rattle.btr_check.proofs.refusing.first_pending.Goals as goal

pub loop-tree-preserved : goal.loop-tree-preserved
loop-tree-preserved c = record {
  value = c.first_of_two-first.ensures ∙ ap (λ o. or_first o c.pending.result) c.loop-tree.invariant.value ∙ ap (or_first _) c.pending.ensures.value
      ∙ sym (first_of_more pending c.args.trees.now c.loop-tree.tree-index _ c.loop-tree-test.true);
  listed = subst (λ o. IfSome o OfList) (sym c.first_of_two-first.ensures)
      (first_holds OfList c.loop-tree.first c.pending.result c.loop-tree.invariant.listed c.pending.ensures.listed);
}
