use Rattle.btr_chunk.proofs.Apart.{parts_apart}
use Rattle.btr_chunk.proofs.laws.parts_apart.Goals as goal

pub returns : goal.returns
returns c = parts_apart
