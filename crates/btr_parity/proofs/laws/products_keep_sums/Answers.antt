use Rattle.btr_parity.proofs.Folding.{products_keep_sums}
use Rattle.btr_parity.proofs.laws.products_keep_sums.Goals as goal

pub returns : goal.returns
returns c = products_keep_sums
