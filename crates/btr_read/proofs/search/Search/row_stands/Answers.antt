use Rattle.std.proofs.Common.{sym, ◌∙◌}
use Rattle.btr_read.proofs.Parts.{row_stands}
use Rattle.btr_read.proofs.search.Search.row_stands.Goals as goal

pub returns-then-stands : goal.returns-then-stands
returns-then-stands c = λ h. row_stands c.args.self.now (sym c.stands.ensures ∙ c.if-stands.true) (sym c.stands-then-stands.ensures ∙ h)
