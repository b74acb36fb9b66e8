use Rattle.btr_volume.proofs.Opened.{opened_is}
use Rattle.btr_volume.proofs.laws.opened_is_of_images.Goals as goal

pub returns : goal.returns
returns c = opened_is
