use Rattle.std.proofs.Common.{◌≡◌, Some, subst, arith}
use Rattle.btr_walk.specs.Le.{up_of}
use Rattle.btr_walk.proofs.Les.{up_at}
use Rattle.btr_walk.proofs.finding.first_pointer_key.Goals as goal

pub returns : goal.returns
returns c =
    subst (λ ps. Some c.key.result ≡ up_of ps c.args.up) c.of-inner.ensures
    (up_at c.of-inner.result 0 c.args.up c.key.result (omega (arith, c.if-count-eq0.false, c.count.ensures.all)) c.key.ensures)
