use Rattle.btr_check_names.proofs.Meeting as meeting
use Rattle.btr_check_names.proofs.subvolume_names.subvolumes_law.Goals as goal

pub returns : goal.returns
returns c = meeting.subvolumes_law
