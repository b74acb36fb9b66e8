use Rattle.btr_send.proofs.Starts.{images_give_sectors}
use Rattle.btr_send.proofs.laws.images_give_sectors.Goals as goal

pub returns : goal.returns
returns c = images_give_sectors
