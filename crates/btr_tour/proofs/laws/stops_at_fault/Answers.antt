use Rattle.btr_tour.proofs.Ranges.{stops_law}
use Rattle.btr_tour.proofs.laws.stops_at_fault.Goals as goal

pub returns : goal.returns
returns c = stops_law
