use Rattle.btr_restore.proofs.Orderlies.{orderly}
use Rattle.btr_restore.proofs.laws.orderly.Goals as goal

pub returns : goal.returns
returns c = orderly
