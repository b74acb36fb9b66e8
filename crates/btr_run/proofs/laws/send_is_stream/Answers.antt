use Rattle.btr_run.proofs.Honests.{send_is_stream}
use Rattle.btr_run.proofs.laws.send_is_stream.Goals as goal

pub returns : goal.returns
returns c = send_is_stream c.sends_restored.ensures.sent c.images_give_sectors.ensures
