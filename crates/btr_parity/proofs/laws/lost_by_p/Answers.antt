use Rattle.btr_parity.proofs.Lost.{lost_by_p}
use Rattle.btr_parity.proofs.laws.lost_by_p.Goals as goal

pub returns : goal.returns
returns c = lost_by_p
