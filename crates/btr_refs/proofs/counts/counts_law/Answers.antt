use Rattle.btr_refs.proofs.Counting as counting
use Rattle.btr_refs.proofs.counts.counts_law.Goals as goal

pub returns : goal.returns
returns c = counting.counts_law
