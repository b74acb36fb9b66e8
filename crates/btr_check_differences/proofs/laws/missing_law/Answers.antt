use Rattle.btr_check_differences.proofs.Missing.{missing_law}
use Rattle.btr_check_differences.proofs.laws.missing_law.Goals as goal

pub returns : goal.returns
returns c = missing_law
