use Rattle.btr_salvage.proofs.Lefts.{honest_salvage}
use Rattle.btr_salvage.proofs.laws.honest_salvage.Goals as goal

pub returns : goal.returns
returns c = honest_salvage
