use Rattle.btr_prog.proofs.Follow.{want_faults}
use Rattle.btr_prog.proofs.answering.want_faults.Goals as goal

pub returns : goal.returns
returns g c = λ part. want_faults g.U.Cause.is part
