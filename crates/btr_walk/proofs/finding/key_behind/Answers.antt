use Rattle.std.proofs.Common.{◌≡◌, ◌+◌, Some, drop, subst, arith}
use Rattle.btr_walk.specs.Reach.{next_key}
use Rattle.btr_walk.proofs.Reaching.{next_at}
use Rattle.btr_walk.proofs.finding.key_behind.Goals as goal

pub returns-then-next-count : goal.returns-then-next-count
returns-then-next-count c =
    subst (λ xs. Some c.key.result ≡ next_key (drop (c.args.at + 1) xs) c.args.up) c.of-leaf.ensures
    (next_at c.of-leaf.result (c.args.at + 1) c.args.up c.key.result (omega (arith, c.if-next-count.true, c.count-count.ensures.all)) c.key.ensures)
