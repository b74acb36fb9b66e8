use Rattle.btr_tour.proofs.Pairs.{both_folds}
use Rattle.btr_tour.proofs.both.folds_both.Goals as goal

pub returns : goal.returns
returns g c = both_folds g.A.Visitor.step g.B.Visitor.step
