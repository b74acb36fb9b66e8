use Rattle.btr_run_laws.proofs.Completing.{restore_completes}
use Rattle.btr_run_laws.proofs.laws.restore_completes.Goals as goal

pub returns : goal.returns
returns c = restore_completes c.headline.ensures
