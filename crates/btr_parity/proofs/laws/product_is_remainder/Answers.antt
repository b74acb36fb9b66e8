use Rattle.btr_parity.proofs.Remainders.{product_is_remainder}
use Rattle.btr_parity.proofs.laws.product_is_remainder.Goals as goal

pub returns : goal.returns
returns c = product_is_remainder
