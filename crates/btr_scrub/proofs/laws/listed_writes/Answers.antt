use Rattle.btr_scrub.proofs.Told.{listed_writes}
use Rattle.btr_scrub.proofs.laws.listed_writes.Goals as goal

pub returns : goal.returns
returns c = listed_writes
