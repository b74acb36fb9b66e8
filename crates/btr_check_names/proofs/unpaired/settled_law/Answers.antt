use Rattle.btr_check_names.proofs.Settling as settling
use Rattle.btr_check_names.proofs.unpaired.settled_law.Goals as goal

pub returns : goal.returns
returns c = settling.settled_law
