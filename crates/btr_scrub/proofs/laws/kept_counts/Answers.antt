use Rattle.btr_scrub.proofs.Sifting.{kept_counts}
use Rattle.btr_scrub.proofs.laws.kept_counts.Goals as goal

pub returns : goal.returns
returns c = kept_counts
