use Rattle.btr_scrub.proofs.Columns.{few_are_few_at}
use Rattle.btr_scrub.proofs.laws.few_are_few_at.Goals as goal

pub returns : goal.returns
returns c = few_are_few_at
