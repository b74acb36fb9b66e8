use Rattle.std.proofs.Common.{not, count_by, ap, ◌∙◌}
use Rattle.btr_pool.proofs.Bits.{count_ones_free}
use Rattle.btr_pool.proofs.ledger.Ledger.free.Goals as goal

pub returns : goal.returns
returns c = count_ones_free c.self.inside.count c.self.inside.free c.self.invariant.within ∙ ap (count_by not) c.self.view_is
