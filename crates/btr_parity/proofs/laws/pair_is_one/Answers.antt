use Rattle.btr_parity.proofs.Folding.{pair_is_one}
use Rattle.btr_parity.proofs.laws.pair_is_one.Goals as goal

pub returns : goal.returns
returns c = pair_is_one
