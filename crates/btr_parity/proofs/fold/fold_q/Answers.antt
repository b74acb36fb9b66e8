use Rattle.std.proofs.Common.{◌∙◌, ap}
use Rattle.btr_parity.specs.Slices.{plus, scaled}
use Rattle.btr_parity.proofs.fold.fold_q.Goals as goal

pub returns : goal.returns
returns c = c.add_scaled.ensures ∙ ap (λ f. plus c.args.acc.now (scaled f c.args.piece.now)) (c.of.ensures ∙ c.power.ensures)
