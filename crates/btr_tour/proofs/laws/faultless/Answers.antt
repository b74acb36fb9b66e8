use Rattle.btr_tour.proofs.Ranges.{faultless_law}
use Rattle.btr_tour.proofs.laws.faultless.Goals as goal

pub returns : goal.returns
returns c = faultless_law
