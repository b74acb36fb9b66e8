use Rattle.btr_check_differences.proofs.Alike.{alike_law}
use Rattle.btr_check_differences.proofs.laws.alike_law.Goals as goal

pub returns : goal.returns
returns c = alike_law
