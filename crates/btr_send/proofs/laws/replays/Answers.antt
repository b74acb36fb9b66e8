use Rattle.btr_send.proofs.ReadBack.{replays}
use Rattle.btr_send.proofs.laws.replays.Goals as goal

pub returns : goal.returns
returns c = replays
