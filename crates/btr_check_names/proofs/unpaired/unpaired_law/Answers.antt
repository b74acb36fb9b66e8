use Rattle.btr_check_names.proofs.MetNames as met
use Rattle.btr_check_names.proofs.unpaired.unpaired_law.Goals as goal

pub returns : goal.returns
returns c = met.unpaired_law
