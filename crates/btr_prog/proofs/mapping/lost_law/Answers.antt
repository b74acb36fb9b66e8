use Rattle.btr_prog.proofs.Lost.{lost_law}
use Rattle.btr_prog.proofs.mapping.lost_law.Goals as goal

pub returns : goal.returns
returns g c = lost_law
