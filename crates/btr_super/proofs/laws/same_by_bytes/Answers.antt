use Rattle.btr_super.proofs.Comparison.{same_by_bytes}
use Rattle.btr_super.proofs.laws.same_by_bytes.Goals as goal

pub returns : goal.returns
returns c = same_by_bytes
