use Rattle.btr_prog.proofs.ChoiceThreads.{goes_thread, thread_goes}
use Rattle.btr_prog.proofs.going.goes_thread.Goals as goal

pub returns : goal.returns
returns g c = record { run = λ Bs body done st p q r. goes_thread Bs body done st p q r; only = λ i Bs body done st p r. thread_goes Bs body done i st p r }
