use Rattle.btr_prog.proofs.Runs.{only_needs}
use Rattle.btr_prog.proofs.mapping.only_needs.Goals as goal

pub returns : goal.returns
returns g c = only_needs
