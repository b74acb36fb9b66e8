use Rattle.btr_parity.proofs.Folding.{powers_differ_law}
use Rattle.btr_parity.proofs.laws.powers_differ.Goals as goal

pub returns : goal.returns
returns c = powers_differ_law
