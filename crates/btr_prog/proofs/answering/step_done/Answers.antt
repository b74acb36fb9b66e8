use Rattle.btr_prog.proofs.Follow.{step_done}
use Rattle.btr_prog.proofs.answering.step_done.Goals as goal

pub returns : goal.returns
returns g c = λ part. step_done g.U.Cause.is part
