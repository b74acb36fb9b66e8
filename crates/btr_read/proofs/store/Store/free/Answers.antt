use Rattle.std.proofs.Common.{count_by, sym, ap, ◌∙◌}
use Rattle.std.specs.Option.{is_none}
use Rattle.btr_pool.proofs.Loans.{count_by-loans_of}
use Rattle.btr_read.proofs.store.Store.free.Goals as goal

pub returns : goal.returns
returns c = c.free.ensures ∙ sym (count_by-loans_of c.self.inside.pool) ∙ ap (λ s. count_by is_none s.loans) c.self.view_is
