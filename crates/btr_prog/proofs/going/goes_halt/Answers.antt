use Rattle.btr_prog.proofs.Choices.{goes_halt}
use Rattle.btr_prog.proofs.going.goes_halt.Goals as goal

pub returns : goal.returns
returns g c = λ i part seen Bs p k done h. goes_halt Bs g.U.Cause.is part seen p k i done h
