use Rattle.btr_restore.proofs.Storing.{ran_settled}
use Rattle.btr_send.proofs.sending.send_settled.Goals as goal

pub returns-in-Err-clause-ran : goal.returns-in-Err-clause-ran
returns-in-Err-clause-ran g c = ran_settled _ _ _ _ _ _ _ _ _ _ _ _ c.store_waiting.ensures.same c.store_waiting.ensures.settled c.in-Err.ensures.ran
