use Rattle.btr_prog.proofs.Choices.{goes_bind, goes_parts}
use Rattle.btr_prog.proofs.going.goes_bind.Goals as goal

pub returns : goal.returns
returns g c = λ Bs p k r. (goes_parts Bs k p r, λ h. goes_bind Bs k p h.0 r h.1 h.2)
