use Rattle.btr_parity.proofs.Folding.{quotient_is_one}
use Rattle.btr_parity.proofs.laws.quotient_is_one.Goals as goal

pub returns : goal.returns
returns c = quotient_is_one
