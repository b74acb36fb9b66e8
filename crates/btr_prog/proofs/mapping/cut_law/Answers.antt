use Rattle.btr_prog.proofs.Runs.{cut_law}
use Rattle.btr_prog.proofs.mapping.cut_law.Goals as goal

pub returns : goal.returns
returns g c = cut_law
