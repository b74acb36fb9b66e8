use Rattle.btr_parity.proofs.Ranges.{parity_of_ranges}
use Rattle.btr_parity.proofs.laws.parity_of_ranges.Goals as goal

pub returns : goal.returns
returns c = parity_of_ranges
