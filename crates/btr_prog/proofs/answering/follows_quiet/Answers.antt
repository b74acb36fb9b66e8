use Rattle.btr_prog.proofs.Quieting.{exec-quiet, follows_quiet, goes_quiet}
use Rattle.btr_prog.proofs.answering.follows_quiet.Goals as goal

pub returns : goal.returns
returns g c = record { run = exec-quiet; answer = λ part. follows_quiet g.U.Cause.is part; choice = λ part. goes_quiet g.U.Cause.is part }
