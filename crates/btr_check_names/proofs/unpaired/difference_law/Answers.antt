use Rattle.btr_check_names.proofs.Differing as differing
use Rattle.btr_check_names.proofs.unpaired.difference_law.Goals as goal

pub returns : goal.returns
returns c = differing.difference_law
