use Rattle.btr_refs.proofs.Keeping.{stored_law}
use Rattle.btr_refs.proofs.stored.stored_law.Goals as goal

pub returns : goal.returns
returns c = stored_law
