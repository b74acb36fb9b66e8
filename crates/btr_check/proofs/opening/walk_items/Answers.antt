use Rattle.std.proofs.Common.{ap, arith, length}
use Rattle.btr_node.specs.Block.{items}
use Rattle.btr_check.proofs.Openings.{items_more}
use Rattle.btr_check.proofs.opening.walk_items.Goals as goal

pub loop-at-preserved : goal.loop-at-preserved
loop-at-preserved c =
    items_more c.args.addr (items c.args.block.now) c.loop-at.at c.args.walk.now c.loop-at.walk c.walk_item.new.walk c.loop-at.edges
    c.in_ok-edges.edges c.found_at.result
    (omega (arith, c.count-at-end.ensures.all, ap length c.of.ensures)) c.found_at.ensures c.loop-at.invariant c.in_ok-edges.ensures
