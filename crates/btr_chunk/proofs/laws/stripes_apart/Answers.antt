use Rattle.btr_chunk.proofs.Apart.{stripes_apart}
use Rattle.btr_chunk.proofs.laws.stripes_apart.Goals as goal

pub returns : goal.returns
returns c = stripes_apart
