use Rattle.btr_parity.proofs.Lost.{lost_by_q}
use Rattle.btr_parity.proofs.laws.lost_by_q.Goals as goal

pub returns : goal.returns
returns c = lost_by_q
