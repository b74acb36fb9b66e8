use Rattle.std.proofs.Common.{sym, ap, ◌∙◌, slice_get}
use Rattle.btr_read.proofs.Order.{by_parities}
use Rattle.btr_read.proofs.search.Search.candidate.Goals as goal

pub returns-clause-behind : goal.returns-clause-behind
returns-clause-behind c = λ order six behind. by_parities c.args.self.now c.args.k c.way.result six behind
    (ap (λ cs. slice_get cs c.args.k) (sym order) ∙ sym c.way_at.ensures ∙ c.way.ensures.value)
