use Rattle.btr_prog.proofs.Follow.{follows_seen}
use Rattle.btr_prog.proofs.answering.follows_seen.Goals as goal

pub returns : goal.returns
returns g c = λ part. follows_seen g.U.Cause.is part
