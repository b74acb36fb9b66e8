use Rattle.btr_parity.proofs.Folding.{folding_onto_q}
use Rattle.btr_parity.proofs.laws.folding_onto_q.Goals as goal

pub returns : goal.returns
returns c = folding_onto_q
