use Rattle.btr_prog.proofs.Follow.{unread_here}
use Rattle.btr_prog.proofs.answering.unread_here.Goals as goal

pub returns : goal.returns
returns g c = λ part. unread_here g.U.Cause.is part
