use Rattle.btr_prog.proofs.Follow.{broke_here}
use Rattle.btr_prog.proofs.answering.broke_here.Goals as goal

pub returns : goal.returns
returns g c = λ part. broke_here g.U.Cause.is part
