use Rattle.std.proofs.Common.{◌≡◌, Some, subst, arith}
use Rattle.btr_walk.specs.Reach.{next_key}
use Rattle.btr_walk.proofs.Reaching.{next_at}
use Rattle.btr_walk.proofs.finding.first_item_key.Goals as goal

pub returns : goal.returns
returns c =
    subst (λ xs. Some c.key.result ≡ next_key xs c.args.up) c.of-leaf.ensures
    (next_at c.of-leaf.result 0 c.args.up c.key.result (omega (arith, c.if-count-eq0.false, c.count.ensures.all)) c.key.ensures)
