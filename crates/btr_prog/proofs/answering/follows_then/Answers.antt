use Rattle.btr_prog.proofs.Follow.{follows_then}
use Rattle.btr_prog.proofs.answering.follows_then.Goals as goal

pub returns : goal.returns
returns g c = λ part. follows_then g.U.Cause.is part
