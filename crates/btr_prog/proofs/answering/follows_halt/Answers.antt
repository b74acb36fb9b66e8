use Rattle.btr_prog.proofs.Follow.{follows_halt}
use Rattle.btr_prog.proofs.answering.follows_halt.Goals as goal

pub returns : goal.returns
returns g c = λ part. follows_halt g.U.Cause.is part
