use Rattle.std.proofs.Common.{ap, ◌∙◌, subst}
use Rattle.btr_pool.specs.Slots.{loans_of}
use Rattle.btr_read.specs.Writing.{OnlyWrites}
use Rattle.btr_read.proofs.Loans.{loans_back}
use Rattle.btr_read.proofs.comparing.compare.Goals as goal

pub returns-clause-loans : goal.returns-clause-loans
returns-clause-loans g c =
    let k = c.take_least-first.result in
    let taken = c.take_least-first.ensures in
    let p3 = c.compare_by-found.new.pool in
    ap loans_of c.give.ensures ∙ loans_back c.args.pool.now p3 k c.requires.whole taken.free
    (subst (λ p. OnlyWrites k p p3) taken.lent c.compare_by-found.ensures.pool)
