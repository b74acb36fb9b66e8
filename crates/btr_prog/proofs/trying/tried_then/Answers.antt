use Rattle.btr_prog.proofs.Tries.{tried-then}
use Rattle.btr_prog.proofs.trying.tried_then.Goals as goal

pub returns : goal.returns
returns g c = tried-then
