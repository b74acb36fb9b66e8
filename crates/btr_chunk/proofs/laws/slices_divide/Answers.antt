use Rattle.btr_chunk.proofs.Rule.{data_count-quotient}
use Rattle.btr_chunk.proofs.laws.slices_divide.Goals as goal

pub returns : goal.returns
returns c = data_count-quotient c.args.chunk.now c.requires
