use Rattle.btr_prog.proofs.Threads.{exec-thread}
use Rattle.btr_prog.proofs.running.exec_thread.Goals as goal

pub returns : goal.returns
returns g c = exec-thread
