use Rattle.btr_parity.proofs.Folding.{parity_by_folding}
use Rattle.btr_parity.proofs.laws.parity_by_folding.Goals as goal

pub returns : goal.returns
returns c = parity_by_folding
