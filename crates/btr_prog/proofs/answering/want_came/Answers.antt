use Rattle.btr_prog.proofs.Follow.{want_came}
use Rattle.btr_prog.proofs.answering.want_came.Goals as goal

pub returns : goal.returns
returns g c = λ part. want_came g.U.Cause.is part
