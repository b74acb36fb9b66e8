use Rattle.btr_tour.proofs.Programs.{marks_law}
use Rattle.btr_tour.proofs.laws.marks_of_run.Goals as goal

pub returns : goal.returns
returns c = marks_law
