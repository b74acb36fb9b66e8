use Rattle.btr_scrub.proofs.Sifting.{kept_writes}
use Rattle.btr_scrub.proofs.laws.kept_writes.Goals as goal

pub returns : goal.returns
returns c = kept_writes
