use Rattle.btr_prog.proofs.Tries.{only_tried}
use Rattle.btr_prog.proofs.trying.only_tried.Goals as goal

pub returns : goal.returns
returns g c = only_tried
