use Rattle.btr_chunk.proofs.Apart.{copies_apart}
use Rattle.btr_chunk.proofs.laws.copies_apart.Goals as goal

pub returns : goal.returns
returns c = copies_apart
