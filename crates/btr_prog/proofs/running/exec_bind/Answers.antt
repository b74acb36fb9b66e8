use Rattle.btr_prog.proofs.Runs.{exec-bind}
use Rattle.btr_prog.proofs.running.exec_bind.Goals as goal

pub returns : goal.returns
returns g c = exec-bind
