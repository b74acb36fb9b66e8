use Rattle.btr_parity.proofs.Lost.{sums_of_slices}
use Rattle.btr_parity.proofs.laws.sums_of_slices.Goals as goal

pub returns : goal.returns
returns c = sums_of_slices
