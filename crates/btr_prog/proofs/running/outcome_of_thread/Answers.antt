use Rattle.btr_prog.proofs.Treated.{outcome_of-thread}
use Rattle.btr_prog.proofs.running.outcome_of_thread.Goals as goal

pub returns : goal.returns
returns g c = outcome_of-thread
