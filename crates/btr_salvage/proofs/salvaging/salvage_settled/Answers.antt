use Rattle.btr_salvage.proofs.Storing.{ran_settled}
use Rattle.btr_salvage.proofs.salvaging.salvage_settled.Goals as goal

pub returns-in-Err-clause-ran : goal.returns-in-Err-clause-ran
returns-in-Err-clause-ran g c = ran_settled _ _ _ _ _ _ _ _ _ _ _ _ c.settle.ensures.same c.settle.ensures.settled c.in-Err.ensures.ran
