use Rattle.btr_check_differences.proofs.Tours.{tours_law}
use Rattle.btr_check_differences.proofs.laws.tours_law.Goals as goal

pub returns : goal.returns
returns c = tours_law
