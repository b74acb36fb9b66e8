use Rattle.btr_prog.proofs.Choices.{goes_some}
use Rattle.btr_prog.proofs.going.goes_some.Goals as goal

pub returns : goal.returns
returns g c = λ Bs B. goes_some Bs B
