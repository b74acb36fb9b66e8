use Rattle.btr_prog.proofs.Choices.{goes_step, goes_broke, goes_nowhere}
use Rattle.btr_prog.proofs.going.goes_step.Goals as goal

pub returns : goal.returns
returns g c = record {
  done = λ part seen Bs. goes_step Bs g.U.Cause.is part seen;
  broke = λ i part seen Bs. goes_broke Bs g.U.Cause.is part seen i;
  nowhere = λ i part seen Bs. goes_nowhere Bs g.U.Cause.is part seen i;
}
