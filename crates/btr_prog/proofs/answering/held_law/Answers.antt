use Rattle.btr_prog.proofs.Places.{held_law}
use Rattle.btr_prog.proofs.answering.held_law.Goals as goal

pub returns : goal.returns
returns g c = held_law g.U.Cause.is
