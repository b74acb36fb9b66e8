use Rattle.btr_volume.proofs.Opened.{opened_alike}
use Rattle.btr_volume.proofs.laws.opened_is_alike.Goals as goal

pub returns : goal.returns
returns c = opened_alike
