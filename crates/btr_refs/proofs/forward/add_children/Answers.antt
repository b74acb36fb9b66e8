use Rattle.std.proofs.Common.{◌<◌, subst}
use Rattle.btr_refs.proofs.Using.{child_more}
use Rattle.btr_refs.proofs.forward.add_children.Goals as goal

pub loop-i-preserved : goal.loop-i-preserved
loop-i-preserved c =
    child_more c.args.from.now c.args.level c.saturating_sub.result c.tree_link-link.result c.args.node.now c.loop-i.i c.child.result.addr
    c.args.forward.now c.loop-i.forward c.use_extent.new.self
    (subst (λ n. c.loop-i.i < n) c.count-i-end.ensures.all c.loop-i-test.true) c.child.ensures.addr c.tree_link-link.ensures c.saturating_sub.ensures
    c.loop-i.invariant c.in_ok-use_extent.ensures
