use Rattle.btr_prog.proofs.Follow.{want_unread}
use Rattle.btr_prog.proofs.answering.want_unread.Goals as goal

pub returns : goal.returns
returns g c = λ part. want_unread g.U.Cause.is part
