use Rattle.btr_restore.proofs.Storing.{ran_settled}
use Rattle.btr_restore.proofs.restoring.restore_settled.Goals as goal

pub returns-in-Err-clause-ran : goal.returns-in-Err-clause-ran
returns-in-Err-clause-ran g c = ran_settled _ _ _ _ _ _ _ _ _ _ _ _ c.settle.ensures.same c.settle.ensures.settled c.in-Err.ensures.ran
