use Rattle.btr_prog.proofs.TwoParts.{exec-staged, needs-staged}
use Rattle.btr_prog.proofs.staging.exec_staged.Goals as goal

pub returns : goal.returns
returns g c = record { run = λ refused. exec-staged refused; wants = λ refused. needs-staged refused }
