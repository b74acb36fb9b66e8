use Rattle.btr_prog.proofs.Choices.{goes_one}
use Rattle.btr_prog.proofs.going.goes_one.Goals as goal

pub returns : goal.returns
returns g c = λ Bs B. goes_one Bs B
