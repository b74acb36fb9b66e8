use Rattle.btr_check_names.proofs.Meeting as meeting
use Rattle.btr_check_names.proofs.tree_names.names_law.Goals as goal

pub returns : goal.returns
returns c = meeting.names_law
