use Rattle.btr_prog.proofs.Tries.{tried_ends}
use Rattle.btr_prog.proofs.trying.tried_ends.Goals as goal

pub returns : goal.returns
returns g c = tried_ends
