use Rattle.btr_prog.proofs.Choices.{goes_then}
use Rattle.btr_prog.proofs.going.goes_then.Goals as goal

pub returns : goal.returns
returns g c = λ part seen Bs p k r a done more ans. goes_then Bs g.U.Cause.is part seen p k r a done more ans
