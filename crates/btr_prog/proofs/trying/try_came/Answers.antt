use Rattle.btr_prog.proofs.Tries.{try_came}
use Rattle.btr_prog.proofs.trying.try_came.Goals as goal

pub returns : goal.returns
returns g c = λ part. try_came g.U.Cause.is part
