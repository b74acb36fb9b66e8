use Rattle.btr_prog.proofs.Runs.{whole_law}
use Rattle.btr_prog.proofs.mapping.whole_law.Goals as goal

pub returns : goal.returns
returns g c = whole_law
