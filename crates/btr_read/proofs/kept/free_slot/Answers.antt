use Rattle.std.proofs.Common.{ap, ◌∙◌}
use Rattle.btr_pool.specs.Slots.{with_free}
use Rattle.btr_pool.proofs.Loans.{with_free-with_lent}
use Rattle.btr_read.proofs.kept.free_slot.Goals as goal

pub returns-clause-same : goal.returns-clause-same
returns-clause-same c = c.give.ensures ∙ ap (λ p. with_free p c.in-Ok.loan) c.in-Ok.ensures.lent
    ∙ with_free-with_lent c.args.pool.now c.in-Ok.loan c.in-Ok.ensures.was_free
