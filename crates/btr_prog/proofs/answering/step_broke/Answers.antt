use Rattle.btr_prog.proofs.Follow.{step_broke}
use Rattle.btr_prog.proofs.answering.step_broke.Goals as goal

pub returns : goal.returns
returns g c = λ part. step_broke g.U.Cause.is part
