use Rattle.btr_prog.proofs.Blinds.{goes_held}
use Rattle.btr_prog.proofs.going.goes_held.Goals as goal

pub returns : goal.returns
returns g c = λ some part seen plain Bs Cs C p done ans. goes_held some Bs Cs g.U.Cause.is part seen p done plain C ans
