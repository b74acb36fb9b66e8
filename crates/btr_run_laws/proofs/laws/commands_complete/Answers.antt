use Rattle.btr_run_laws.proofs.Completing.{commands_complete}
use Rattle.btr_run_laws.proofs.laws.commands_complete.Goals as goal

pub returns : goal.returns
returns c = commands_complete
