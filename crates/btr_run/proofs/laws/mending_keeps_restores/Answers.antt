use Rattle.btr_run.proofs.Rescues.{mending_keeps_restores}
use Rattle.btr_run.proofs.laws.mending_keeps_restores.Goals as goal

pub returns : goal.returns
returns c = mending_keeps_restores
