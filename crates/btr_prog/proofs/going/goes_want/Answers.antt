use Rattle.btr_prog.proofs.Choices.{goes_came, goes_faults, goes_unread}
use Rattle.btr_prog.proofs.going.goes_want.Goals as goal

pub returns : goal.returns
returns g c = record {
  came = λ part seen Bs. goes_came Bs g.U.Cause.is part seen;
  faults = λ part seen Bs. goes_faults Bs g.U.Cause.is part seen;
  unread = λ i part seen Bs. goes_unread Bs g.U.Cause.is part seen i;
}
