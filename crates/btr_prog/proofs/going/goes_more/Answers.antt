use Rattle.btr_prog.proofs.Choices.{goes_more}
use Rattle.btr_prog.proofs.going.goes_more.Goals as goal

pub returns : goal.returns
returns g c = λ Bs Cs. goes_more Bs Cs
