use Rattle.btr_prog.proofs.Blinds.{blind_law}
use Rattle.btr_prog.proofs.going.blind_law.Goals as goal

pub returns : goal.returns
returns g c = λ plain Cs C p q. blind_law plain Cs C p q
